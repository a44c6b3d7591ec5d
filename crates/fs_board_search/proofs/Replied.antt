-- What the board's replies mean to a search.
use Rattle.std.proofs.Common.{◌≡◌, ℕ, ◌<◌, true, false, Some, None, length, refl, sym, ap, subst, ◌∙◌}
use Rattle.std.proofs.lemmas.Bool.{false≢true}
use Rattle.fs_board_offers.specs.Parts.{Part, floor, filled, is_undecided, child_parts}
use Rattle.fs_cert_evidence.specs.Shown.{IsShownBy}
use Rattle.fs_board_offers.specs.Board.{Split, Costly, Witnessed, Bounded, Posted, Event, Take, Claim, Adopt, SplitAt, CutCost, CutWitness, CutBound, Post, Reply, Given, Idle, Done, Gone, Children, NotYours, Decided, Full, Closed, Cheaper, NotCovered, Other, is_open, is_held, is_held_by, has_node, part_at, is_finished}
use Rattle.fs_board_offers.specs.Histories.{IsHistory, HoldsNode}
use Rattle.fs_board_offers.specs.Sizes.{whole_tree}
use Rattle.fs_board_offers.proofs.Leaves.{opened}
use Rattle.fs_board_offers.proofs.Growing.{full-large}
use Rattle.fs_cert_evidence.specs.Evidence.{witness_in}
use Rattle.fs_board.specs.declared.event.Event.{Event as CodeEvent}
use Rattle.fs_board.specs.declared.event.Event.TheVariants as event
use Rattle.fs_board.specs.View.{Search, Answers, event_of}
use Rattle.fs_board_search.specs.Tries.{is_try, IsLast}
use Rattle.fs_board_search.specs.inner.Steps.{Stays, IsTried, is_end, is_given}
use Rattle.fs_board_search.proofs.Goes.{goes-on, done-now, done-more, IsHandedOut, handed-open, handed-held}
use Rattle.fs_board_offers.specs.Offers.{AreOffers}

module _ (old new : Search) where
  -- ---- closing and splitting

  stays : (e : Event) (r : Reply) → Answers old new 0 e r → new.board ≡ old.board → Stays old new
  stays e r a is = record { goes = goes-on old new 0 e r a; board = is }

  -- a try ends the node, or changes nothing
  pub tried : (e : Event) (r : Reply) → is_try e ≡ true → Answers old new 0 e r → IsTried old new (is_end r)
  tried (SplitAt k slot) (Children first count) is a =
      done-more old new 0 k a.step.0 (Split slot (length old.board.nodes)) (opened (child_parts old.question.offers slot a.step.0))
      (goes-on old new 0 (SplitAt k slot) (Children first count) a) a.step.1 refl (ap (λ b. b.nodes) a.step.6)
  tried (SplitAt k slot) NotYours is a = stays (SplitAt k slot) NotYours a a.step.1
  tried (SplitAt k slot) Decided is a = stays (SplitAt k slot) Decided a a.step.3
  tried (SplitAt k slot) Full is a = stays (SplitAt k slot) Full a a.step.4
  tried (CutCost k) Closed is a =
      done-now old new 0 k a.step.0 Costly (goes-on old new 0 (CutCost k) Closed a) a.step.1 refl (ap (λ b. b.nodes) a.step.3)
  tried (CutCost k) NotYours is a = stays (CutCost k) NotYours a a.step.1
  tried (CutCost k) Cheaper is a = stays (CutCost k) Cheaper a a.step.3
  tried (CutWitness k w) Closed is a =
      done-now old new 0 k a.step.0 (Witnessed (length old.board.witnesses)) (goes-on old new 0 (CutWitness k w) Closed a) a.step.1 refl
      (ap (λ b. b.nodes) a.step.3)
  tried (CutWitness k w) NotYours is a = stays (CutWitness k w) NotYours a a.step.1
  tried (CutWitness k w) NotCovered is a = stays (CutWitness k w) NotCovered a a.step.3
  tried (CutBound k ws) Closed is a =
      done-now old new 0 k a.step.0 (Bounded (length old.board.witnesses) (length ws)) (goes-on old new 0 (CutBound k ws) Closed a) a.step.1 refl
      (ap (λ b. b.nodes) a.step.3)
  tried (CutBound k ws) NotYours is a = stays (CutBound k ws) NotYours a a.step.1
  tried (CutBound k ws) NotCovered is a = stays (CutBound k ws) NotCovered a a.step.3
  tried (CutBound k ws) Cheaper is a = stays (CutBound k ws) Cheaper a a.step.3
  tried (Post k p) Closed is a =
      done-now old new 0 k a.step.0 Posted (goes-on old new 0 (Post k p) Closed a) a.step.1 refl (ap (λ b. b.nodes) a.step.4)
  tried (Post k p) NotYours is a = stays (Post k p) NotYours a a.step.1
  tried (Post k p) Other is a = stays (Post k p) Other a a.step.3
  tried (SplitAt k slot) r is a = absurd a.step
  tried (CutCost k) r is a = absurd a.step
  tried (CutWitness k w) r is a = absurd a.step
  tried (CutBound k ws) r is a = absurd a.step
  tried (Post k p) r is a = absurd a.step
  tried e r is a = absurd (false≢true is)

  same-part : (k : ℕ) (part other : Part) → HoldsNode old.board 0 k part → HoldsNode old.board 0 k other → other ≡ part
  same-part k part other held also = let e : Some other ≡ Some part = sym also ∙ held in cc

  at-node : (j k : ℕ) (part : Part) → j ≡ k → HoldsNode old.board 0 j part → HoldsNode old.board 0 k part
  at-node j k part same held = subst (λ i. HoldsNode old.board 0 i part) same held

  -- the last try ends it, but for a split where the tree is too large
  pub last-large : (k : ℕ) (part : Part) (e : CodeEvent) (r : Reply) → HoldsNode old.board 0 k part → IsLast old.question.test k part e
      → IsHistory old.question.test old.question.offers old.board.limit old.log old.board → AreOffers old.question.offers
      → Answers old new 0 (event_of e) r → is_end r ≡ false
      → old.board.limit < whole_tree old.question.offers
  last-large k part (event.Split j slot) NotYours held last history are a is =
      let e : Some part ≡ None = sym held ∙ (ap (part_at (is_held_by 0) old.board) (sym last.0) ∙ a.step.0) in absurd (cc)
  last-large k part (event.Split j slot) Decided held last history are a is =
      let same = same-part k part a.step.0 held (at-node j k a.step.0 last.0 a.step.1) in
      absurd (false≢true (sym a.step.2 ∙ (ap (is_undecided slot) same ∙ last.1)))
  last-large k part (event.Split j slot) Full held last history are a is =
      full-large old.question.offers old.question.test old.board.limit old.log old.board 0 j slot new.board are.rising history a.step
  last-large k part (event.CutWitness j w) NotYours held last history are a is =
      let e : Some part ≡ None = sym held ∙ (ap (part_at (is_held_by 0) old.board) (sym last.0) ∙ a.step.0) in absurd (cc)
  last-large k part (event.CutWitness j w) NotCovered held last history are a is =
      let same = same-part k part a.step.0 held (at-node j k a.step.0 last.0 a.step.1) in
      absurd (a.step.2 (subst (λ (x : Part). IsShownBy old.question.test (filled x) (witness_in w)) (sym same) last.1))
  last-large k part (event.Post j f) NotYours held last history are a is =
      let e : Some part ≡ None = sym held ∙ (ap (part_at (is_held_by 0) old.board) (sym last.0) ∙ a.step.0) in absurd (cc)
  last-large k part (event.Post j f) Other held last history are a is =
      let same = same-part k part a.step.0 held (at-node j k a.step.0 last.0 a.step.1) in
      absurd (a.step.2 (last.1 ∙ ap floor (sym same)))
  last-large k part (event.Split j slot) (Children first count) held last history are a is = absurd (false≢true (sym is))
  last-large k part (event.CutWitness j w) Closed held last history are a is = absurd (false≢true (sym is))
  last-large k part (event.Post j f) Closed held last history are a is = absurd (false≢true (sym is))
  last-large k part (event.Split j slot) r held last history are a is = absurd a.step
  last-large k part (event.CutWitness j w) r held last history are a is = absurd a.step
  last-large k part (event.Post j f) r held last history are a is = absurd a.step
  last-large k part e r held last history are a is = absurd last

  -- ---- taking

  pub given-out : (e : Event) (k : ℕ) (part : Part) → Answers old new 0 e (Given k part) → IsHandedOut old new k part
  given-out Take k part a = handed-open old new k part (goes-on old new 0 Take (Given k part) a) a.step.0 (ap (λ b. b.nodes) a.step.1)
  given-out (Claim j) k part a = handed-open old new k part (goes-on old new 0 (Claim j) (Given k part) a) a.step.1 (ap (λ b. b.nodes) a.step.2)
  given-out (Adopt j) k part a = handed-held old new k part (goes-on old new 0 (Adopt j) (Given k part) a) a.step.1 (ap (λ b. b.nodes) a.step.2)
  given-out e k part a = absurd a.step

  pub claim-stays : (j : ℕ) (r : Reply) → Answers old new 0 (Claim j) r → is_given r ≡ false → Stays old new
  claim-stays j (Given k part) a is = absurd (false≢true (sym is))
  claim-stays j Gone a is = record { goes = goes-on old new 0 (Claim j) Gone a; board = a.step.1 }
  claim-stays j r a is = absurd a.step

  pub take-stays : (r : Reply) → Answers old new 0 Take r → is_given r ≡ false → Stays old new
  take-stays (Given k part) a is = absurd (false≢true (sym is))
  take-stays Idle a is = record { goes = goes-on old new 0 Take Idle a; board = a.step.2 }
  take-stays Done a is = record { goes = goes-on old new 0 Take Done a; board = a.step.2 }
  take-stays r a is = absurd a.step

  -- nothing is open where nothing was handed out
  pub none-open : (r : Reply) → Answers old new 0 Take r → is_given r ≡ false → has_node is_open new.board ≡ false
  none-open (Given k part) a is = absurd (false≢true (sym is))
  none-open Idle a is = ap (has_node is_open) a.step.2 ∙ a.step.0
  none-open Done a is = ap (has_node is_open) a.step.2 ∙ a.step.0
  none-open r a is = absurd a.step

  pub adopts : (j : ℕ) (part : Part) (r : Reply) → part_at is_held old.board j ≡ Some part → Answers old new 0 (Adopt j) r → is_given r ≡ true
  adopts j part (Given k other) held a = refl
  adopts j part Gone held a = let e : Some part ≡ None = sym held ∙ a.step.0 in absurd (cc)
  adopts j part r held a = absurd a.step

pub finishes : (s : Search) → has_node is_open s.board ≡ false → has_node is_held s.board ≡ false → is_finished s.board ≡ true
finishes s free kept = rw (free, kept) refl
