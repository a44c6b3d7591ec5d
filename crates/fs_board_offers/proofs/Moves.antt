-- What a step of the board changes: nothing, the status of one node that isn't split, or a node that is split now.
use Rattle.std.proofs.Common.{◌≡◌, ℕ, Bool, true, false, subst, Option, None, Some, List, [], ◌∷◌, ◌++◌, map, length, refl, sym, ap, ◌∙◌}
use Rattle.std.specs.Prelude.{slice_get, slice_set, option_and_then, if◌then◌else◌}
use Rattle.std.specs.List.{AllZip}
use Rattle.std.proofs.lemmas.Bool.{false≢true}
use Rattle.fs_kinds.specs.declared.slot.Slot.{Slot}
use Rattle.fs_board_offers.specs.Offers.{Offers}
use Rattle.fs_model.specs.declared.test.Test.{Test}
use Rattle.fs_model.specs.Execution.{Execution}
use Rattle.fs_model.specs.Witness.{Witness}
use Rattle.fs_model.specs.Allows.{Allows}
use Rattle.fs_cert_evidence.specs.Shown.{ShowsAs, IsShownBy}
use Rattle.fs_cert_evidence.specs.Widths.{width}
use Rattle.fs_board_offers.specs.Parts.{Part, is_undecided, floor, filled, child_parts}
use Rattle.fs_board_offers.specs.Pruning.{is_pruned}
use Rattle.fs_board_offers.specs.Board.{Board, Node, Status, Event, Reply, Open, Held, Split, Costly, Witnessed, Bounded, Posted, Take, Claim, Adopt, SplitAt, CutCost, CutWitness, CutBound, Post, Peek, Given, Idle, Done, Gone, Children, NotYours, Decided, Full, Closed, Cheaper, NotCovered, Other, Seen, is_open, is_held, is_held_by, part_at, with_status, with_open, better_of, is_full}
use Rattle.fs_board_offers.specs.Histories.{Steps}
use Rattle.fs_board_offers.specs.Trees.{is_split, IsNode}

abbrev pub node_of : Part → Status → Node
node_of part status = record { part = part; status = status }

-- ---- which node is meant

pub record HasStatus (test : Status → Bool) (o : Option Node) (part : Part) : Type 0 where
  pub status : Status
  pub at : o ≡ Some (node_of part status)
  pub passes : test status ≡ true

has-status : (test : Status → Bool) (o : Option Node) (part : Part)
    → option_and_then (λ node. if test node.status then Some node.part else None) o ≡ Some part → HasStatus test o part
has-status test None part found = absurd (cc)
has-status test (Some node) part found = by_test (test node.status) refl found
  where
    by_test : (b : Bool) → test node.status ≡ b → (if b then Some node.part else None) ≡ Some part → HasStatus test (Some node) part
    by_test true is found =
        let same : node.part ≡ part = cc in
        record { status = node.status; at = ap (λ p. Some (node_of p node.status)) same; passes = is }
    by_test false is found = absurd (cc)

pub status-at : (test : Status → Bool) (b : Board) (k : ℕ) (part : Part) → part_at test b k ≡ Some part
    → HasStatus test (slice_get b.nodes k) part
status-at test b k part found = has-status test (slice_get b.nodes k) part found

open-unsplit : (status : Status) → is_open status ≡ true → is_split status ≡ false
open-unsplit Open is = refl
open-unsplit (Held w) is = refl
open-unsplit (Split slot first) is = absurd (false≢true is)
open-unsplit Costly is = refl
open-unsplit (Witnessed j) is = refl
open-unsplit (Bounded first count) is = refl
open-unsplit Posted is = refl

held-unsplit : (status : Status) → is_held status ≡ true → is_split status ≡ false
held-unsplit Open is = refl
held-unsplit (Held w) is = refl
held-unsplit (Split slot first) is = absurd (false≢true is)
held-unsplit Costly is = refl
held-unsplit (Witnessed j) is = refl
held-unsplit (Bounded first count) is = refl
held-unsplit Posted is = refl

pub held-by-unsplit : (w : ℕ) (status : Status) → is_held_by w status ≡ true → is_split status ≡ false
held-by-unsplit w Open is = refl
held-by-unsplit w (Held v) is = refl
held-by-unsplit w (Split slot first) is = absurd (false≢true is)
held-by-unsplit w Costly is = refl
held-by-unsplit w (Witnessed j) is = refl
held-by-unsplit w (Bounded first count) is = refl
held-by-unsplit w Posted is = refl

-- ---- what changes

module _ (t : Test) (offers : Offers) where
  -- why a node of this part gets a status, and what becomes of bound and witnesses
  pub data Reason (old new : Board) (part : Part) : Status → Type 0 where
    Holds : (worker : ℕ) → new.bound ≡ old.bound → new.witnesses ≡ old.witnesses → Reason old new part (Held worker)
    Cost : is_pruned offers old.bound part [] ≡ true → new.bound ≡ old.bound → new.witnesses ≡ old.witnesses → Reason old new part Costly
    One : (w : Witness) → IsShownBy t (filled part) w → new.bound ≡ old.bound → new.witnesses ≡ old.witnesses ++ w ∷ []
        → Reason old new part (Witnessed (length old.witnesses))
    Many : (ws : List Witness) (es : List Execution) → AllZip (ShowsAs t (floor part)) ws es
        → is_pruned offers old.bound part (map (width t) es) ≡ true → new.bound ≡ old.bound → new.witnesses ≡ old.witnesses ++ ws
        → Reason old new part (Bounded (length old.witnesses) (length ws))
    Best : (Allows t (floor part) → ⊥) → new.bound ≡ better_of offers old.bound (floor part) → new.witnesses ≡ old.witnesses
        → Reason old new part Posted

  pub data Move (old new : Board) : Type 0 where
    Stays : new ≡ old → Move old new
    Marks : (k : ℕ) (part : Part) (x y : Status) → IsNode old k (node_of part x) → is_split x ≡ false → is_split y ≡ false
        → new.nodes ≡ slice_set old.nodes k (node_of part y) → new.limit ≡ old.limit → Reason old new part y → Move old new
    Splits : (k : ℕ) (part : Part) (x : Status) (slot : Slot) → IsNode old k (node_of part x) → is_split x ≡ false
        → is_undecided slot part ≡ true → is_full offers slot old ≡ false
        → new ≡ with_open (child_parts offers slot part) (with_status (Split slot (length old.nodes)) k part old) → Move old new

  holds : (test : Status → Bool) (old new : Board) (k w : ℕ) (part : Part) → ((status : Status) → test status ≡ true → is_split status ≡ false)
      → part_at test old k ≡ Some part → new ≡ with_status (Held w) k part old → Move old new
  holds test old new k w part unsplit found is =
      let has = status-at test old k part found in
      Marks k part has.status (Held w) has.at (unsplit has.status has.passes) refl (ap (λ b. b.nodes) is) (ap (λ b. b.limit) is)
      (Holds w (ap (λ b. b.bound) is) (ap (λ b. b.witnesses) is))

  marks : (old new : Board) (k w : ℕ) (part : Part) (y : Status) → part_at (is_held_by w) old k ≡ Some part → is_split y ≡ false
      → new.nodes ≡ slice_set old.nodes k (node_of part y) → new.limit ≡ old.limit → Reason old new part y → Move old new
  marks old new k w part y found unsplit nodes limit reason =
      let has = status-at (is_held_by w) old k part found in
      Marks k part has.status y has.at (held-by-unsplit w has.status has.passes) unsplit nodes limit reason

  splits : (old new : Board) (k w : ℕ) (part : Part) (slot : Slot) → part_at (is_held_by w) old k ≡ Some part
      → is_undecided slot part ≡ true → is_full offers slot old ≡ false
      → new ≡ with_open (child_parts offers slot part) (with_status (Split slot (length old.nodes)) k part old) → Move old new
  splits old new k w part slot found free room is =
      let has = status-at (is_held_by w) old k part found in
      Splits k part has.status slot has.at (held-by-unsplit w has.status has.passes) free room is

  pub moves : (old : Board) (w : ℕ) (event : Event) (reply : Reply) (new : Board) → Steps t offers old w event reply new → Move old new
  moves old w Take (Given k part) new h = holds is_open old new k w part open-unsplit h.0 h.1
  moves old w Take Idle new h = Stays h.2
  moves old w Take Done new h = Stays h.2
  moves old w (Claim j) (Given k part) new h = holds is_open old new k w part open-unsplit h.1 h.2
  moves old w (Claim j) Gone new h = Stays h.1
  moves old w (Adopt j) (Given k part) new h = holds is_held old new k w part held-unsplit h.1 h.2
  moves old w (Adopt j) Gone new h = Stays h.1
  moves old w (SplitAt k slot) NotYours new h = Stays h.1
  moves old w (SplitAt k slot) Decided new h = Stays h.3
  moves old w (SplitAt k slot) Full new h = Stays h.4
  moves old w (SplitAt k slot) (Children first count) new h = splits old new k w h.0 slot h.1 h.2 h.3 h.6
  moves old w (CutCost k) NotYours new h = Stays h.1
  moves old w (CutCost k) Cheaper new h = Stays h.3
  moves old w (CutCost k) Closed new h =
      marks old new k w h.0 Costly h.1 refl (ap (λ b. b.nodes) h.3) (ap (λ b. b.limit) h.3)
      (Cost h.2 (ap (λ b. b.bound) h.3) (ap (λ b. b.witnesses) h.3))
  moves old w (CutWitness k witness) NotYours new h = Stays h.1
  moves old w (CutWitness k witness) NotCovered new h = Stays h.3
  moves old w (CutWitness k witness) Closed new h =
      marks old new k w h.0 (Witnessed (length old.witnesses)) h.1 refl (ap (λ b. b.nodes) h.3) (ap (λ b. b.limit) h.3)
      (One witness h.2 (ap (λ b. b.bound) h.3) (ap (λ b. b.witnesses) h.3))
  moves old w (CutBound k ws) NotYours new h = Stays h.1
  moves old w (CutBound k ws) NotCovered new h = Stays h.3
  moves old w (CutBound k ws) Cheaper new h = Stays h.3
  moves old w (CutBound k ws) Closed new h =
      marks old new k w h.0 (Bounded (length old.witnesses) (length ws)) h.1 refl (ap (λ b. b.nodes) h.3) (ap (λ b. b.limit) h.3)
      (Many ws h.2.0 h.2.1 h.2.2 (ap (λ b. b.bound) h.3) (ap (λ b. b.witnesses) h.3))
  moves old w (Post k p) NotYours new h = Stays h.1
  moves old w (Post k p) Other new h = Stays h.3
  moves old w (Post k p) Closed new h =
      marks old new k w h.0 Posted h.1 refl (ap (λ b. b.nodes) h.4) (ap (λ b. b.limit) h.4)
      (Best (λ allows. h.3 (subst (Allows t) (sym h.2) allows))
      (ap (λ b. b.bound) h.4 ∙ ap (better_of offers old.bound) h.2) (ap (λ b. b.witnesses) h.4))
  moves old w (Peek from) (Seen bound upto ws) new h = Stays h.3
  moves old w event reply new h = absurd h
