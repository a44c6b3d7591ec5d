-- What is closed or split stays so, an event of its holder ends each node once at most, and the bound never becomes
-- worse.
use Rattle.std.proofs.Common.{◌≡◌, ◌⊎◌, ℕ, zero, suc, ◌+◌, ◌≤◌, ◌==◌, Bool, true, false, Option, Some, List, [], ◌∷◌, ◌++◌, length, inl, inr, refl, sym, ap, subst, ◌∙◌, arith}
use Rattle.std.specs.Prelude.{slice_get, slice_set, if◌then◌else◌}
use Rattle.std.specs.List.{count_by}
use Rattle.std.proofs.lemmas.Bool.{eqb-true, false≢true, cases_Bool}
use Rattle.std.proofs.lemmas.Bool.Decides.{nat_tests}
use Rattle.fs_kinds.specs.declared.placement.Entry.{Entry}
use Rattle.fs_board_offers.specs.Offers.{Offers, is_better}
use Rattle.fs_model.specs.declared.test.Test.{Test}
use Rattle.fs_board_offers.specs.Parts.{Part, floor, child_parts}
use Rattle.fs_board_offers.specs.Board.{Board, Node, Status, Event, Reply, Open, Held, Split, Costly, Witnessed, Bounded, Posted, Take, Claim, Adopt, SplitAt, CutCost, CutWitness, CutBound, Post, Peek, Given, Idle, Done, Gone, Children, NotYours, Decided, Full, Closed, Cheaper, NotCovered, Other, Seen, is_open, is_held, is_held_by, part_at, with_status, better_of}
use Rattle.fs_board_offers.specs.Histories.{LogEntry, Steps, Lead, HoldsNode}
use Rattle.fs_board_offers.proofs.Ranked.{better-transitive}
use Rattle.fs_board_offers.specs.Trees.{is_ended, ends_node, IsNode}
use Rattle.fs_model_laws.proofs.Places.{at-append, at-map, at-more, count_one, count-cons}
use Rattle.fs_board_offers.proofs.Moves.{node_of, status-at, Reason, Holds, Cost, One, Many, Best, Move, Stays, Marks, Splits, moves}
use Rattle.fs_board_offers.proofs.Leaves.{opened}
use Rattle.fs_board_offers.proofs.Splitting.{still-there, at-set-place}

-- ---- places

set-here : {X : Type 0} (xs : List X) (k : ℕ) (x y : X) → slice_get xs k ≡ Some x → slice_get (slice_set xs k y) k ≡ Some y
set-here [] k x y at = absurd (cc)
set-here (z ∷ zs) zero x y at = refl
set-here (z ∷ zs) (suc k) x y at = set-here zs k x y at

append-none : {X : Type 0} (xs : List X) → xs ≡ xs ++ []
append-none [] = refl
append-none (x ∷ xs) = ap (λ ys. x ∷ ys) (append-none xs)

same-number : (j k : ℕ) → j ≡ k → (j == k) ≡ true
same-number j k same = grind (arith, nat_tests)

-- ---- whose node may be changed

open-going : (status : Status) → is_open status ≡ true → is_ended status ≡ false
open-going Open is = refl
open-going (Held w) is = refl
open-going (Split slot first) is = absurd (false≢true is)
open-going Costly is = absurd (false≢true is)
open-going (Witnessed j) is = absurd (false≢true is)
open-going (Bounded first count) is = absurd (false≢true is)
open-going Posted is = absurd (false≢true is)

held-going : (status : Status) → is_held status ≡ true → is_ended status ≡ false
held-going Open is = refl
held-going (Held w) is = refl
held-going (Split slot first) is = absurd (false≢true is)
held-going Costly is = absurd (false≢true is)
held-going (Witnessed j) is = absurd (false≢true is)
held-going (Bounded first count) is = absurd (false≢true is)
held-going Posted is = absurd (false≢true is)

held-by-going : (w : ℕ) (status : Status) → is_held_by w status ≡ true → is_ended status ≡ false
held-by-going w Open is = refl
held-by-going w (Held v) is = refl
held-by-going w (Split slot first) is = absurd (false≢true is)
held-by-going w Costly is = absurd (false≢true is)
held-by-going w (Witnessed j) is = absurd (false≢true is)
held-by-going w (Bounded first count) is = absurd (false≢true is)
held-by-going w Posted is = absurd (false≢true is)

-- the node of this number is done with
record IsDone (b : Board) (k : ℕ) : Type 0 where
  pub node : Node
  pub at : IsNode b k node
  pub ended : is_ended node.status ≡ true

not-held : (b : Board) (w k : ℕ) (part : Part) → IsDone b k → HoldsNode b w k part → ⊥
not-held b w k part done held =
    let has = status-at (is_held_by w) b k part held in
    let at = done.at in
    let there = has.at in
    let same : done.node ≡ node_of part has.status = cc in
    false≢true (sym (held-by-going w has.status has.passes) ∙ (sym (ap (λ (n : Node). is_ended n.status) same) ∙ done.ended))

-- ---- what a worker's event does to the nodes: nothing, a node that isn't done with is held now, or one that the worker held is ended

module _ (t : Test) (offers : Offers) where
  data Turn (old : Board) (w : ℕ) (event : Event) (reply : Reply) (new : Board) : Type 0 where
    Rests : new ≡ old → ((j : ℕ) → ends_node j event reply ≡ false) → Turn old w event reply new
    Gets : (k v : ℕ) (part : Part) (x : Status) → IsNode old k (node_of part x) → is_ended x ≡ false
        → new.nodes ≡ slice_set old.nodes k (node_of part (Held v)) → ((j : ℕ) → ends_node j event reply ≡ false)
        → Turn old w event reply new
    Ends : (k : ℕ) (part : Part) (y : Status) (children : List Part) → HoldsNode old w k part → is_ended y ≡ true
        → new.nodes ≡ slice_set old.nodes k (node_of part y) ++ opened children → ((j : ℕ) → ends_node j event reply ≡ (j == k))
        → Turn old w event reply new

  gets : (test : Status → Bool) (old : Board) (w : ℕ) (event : Event) (reply : Reply) (new : Board) (k : ℕ) (part : Part)
      → ((status : Status) → test status ≡ true → is_ended status ≡ false) → ((j : ℕ) → ends_node j event reply ≡ false)
      → part_at test old k ≡ Some part → new ≡ with_status (Held w) k part old → Turn old w event reply new
  gets test old w event reply new k part going none found is =
      let has = status-at test old k part found in
      Gets k w part has.status has.at (going has.status has.passes) (ap (λ b. b.nodes) is) none

  closes : (old : Board) (w : ℕ) (event : Event) (reply : Reply) (new : Board) (k : ℕ) (part : Part) (y : Status) → is_ended y ≡ true
      → ((j : ℕ) → ends_node j event reply ≡ (j == k)) → HoldsNode old w k part
      → new.nodes ≡ slice_set old.nodes k (node_of part y) → Turn old w event reply new
  closes old w event reply new k part y ended one held is =
      Ends k part y [] held ended (is ∙ append-none (slice_set old.nodes k (node_of part y))) one

  turn : (old : Board) (w : ℕ) (event : Event) (reply : Reply) (new : Board) → Steps t offers old w event reply new
      → Turn old w event reply new
  turn old w Take (Given k part) new h = gets is_open old w Take (Given k part) new k part open-going (λ j. refl) h.0 h.1
  turn old w Take Idle new h = Rests h.2 (λ j. refl)
  turn old w Take Done new h = Rests h.2 (λ j. refl)
  turn old w (Claim i) (Given k part) new h = gets is_open old w (Claim i) (Given k part) new k part open-going (λ j. refl) h.1 h.2
  turn old w (Claim i) Gone new h = Rests h.1 (λ j. refl)
  turn old w (Adopt i) (Given k part) new h = gets is_held old w (Adopt i) (Given k part) new k part held-going (λ j. refl) h.1 h.2
  turn old w (Adopt i) Gone new h = Rests h.1 (λ j. refl)
  turn old w (SplitAt k slot) NotYours new h = Rests h.1 (λ j. refl)
  turn old w (SplitAt k slot) Decided new h = Rests h.3 (λ j. refl)
  turn old w (SplitAt k slot) Full new h = Rests h.4 (λ j. refl)
  turn old w (SplitAt k slot) (Children first count) new h =
      Ends k h.0 (Split slot (length old.nodes)) (child_parts offers slot h.0) h.1 refl (ap (λ b. b.nodes) h.6) (λ j. refl)
  turn old w (CutCost k) NotYours new h = Rests h.1 (λ j. refl)
  turn old w (CutCost k) Cheaper new h = Rests h.3 (λ j. refl)
  turn old w (CutCost k) Closed new h =
      closes old w (CutCost k) Closed new k h.0 Costly refl (λ j. refl) h.1 (ap (λ b. b.nodes) h.3)
  turn old w (CutWitness k witness) NotYours new h = Rests h.1 (λ j. refl)
  turn old w (CutWitness k witness) NotCovered new h = Rests h.3 (λ j. refl)
  turn old w (CutWitness k witness) Closed new h =
      closes old w (CutWitness k witness) Closed new k h.0 (Witnessed (length old.witnesses)) refl (λ j. refl) h.1 (ap (λ b. b.nodes) h.3)
  turn old w (CutBound k ws) NotYours new h = Rests h.1 (λ j. refl)
  turn old w (CutBound k ws) NotCovered new h = Rests h.3 (λ j. refl)
  turn old w (CutBound k ws) Cheaper new h = Rests h.3 (λ j. refl)
  turn old w (CutBound k ws) Closed new h =
      closes old w (CutBound k ws) Closed new k h.0 (Bounded (length old.witnesses) (length ws)) refl (λ j. refl) h.1 (ap (λ b. b.nodes) h.3)
  turn old w (Post k p) NotYours new h = Rests h.1 (λ j. refl)
  turn old w (Post k p) Other new h = Rests h.3 (λ j. refl)
  turn old w (Post k p) Closed new h = closes old w (Post k p) Closed new k h.0 Posted refl (λ j. refl) h.1 (ap (λ b. b.nodes) h.4)
  turn old w (Peek from) (Seen bound upto ws) new h = Rests h.3 (λ j. refl)
  turn old w event reply new h = absurd h

  -- ---- it stays

  set-stays : (nodes : List Node) (k : ℕ) (part : Part) (x y : Status) (j : ℕ) (node : Node) → slice_get nodes k ≡ Some (node_of part x)
      → is_ended x ≡ false → slice_get nodes j ≡ Some node → is_ended node.status ≡ true
      → slice_get (slice_set nodes k (node_of part y)) j ≡ Some node
  set-stays nodes k part x y j node there going at ended =
      elim (still-there nodes k (node_of part x) (node_of part y) j node there at) [
        | inl still ↦ still
        | inr changed ↦ absurd (false≢true (sym going ∙ (sym (ap (λ (n : Node). is_ended n.status) changed.0) ∙ ended)))
      ]

  turn-stays : (old : Board) (w : ℕ) (event : Event) (reply : Reply) (new : Board) → Turn old w event reply new
      → (j : ℕ) (node : Node) → IsNode old j node → is_ended node.status ≡ true → IsNode new j node
  turn-stays old w event reply new (Rests same none) j node at ended = ap (λ b. slice_get b.nodes j) same ∙ at
  turn-stays old w event reply new (Gets k v part x there going nodes none) j node at ended =
      ap (λ ns. slice_get ns j) nodes ∙ set-stays old.nodes k part x (Held v) j node there going at ended
  turn-stays old w event reply new (Ends k part y children held over nodes one) j node at ended =
      let has = status-at (is_held_by w) old k part held in
      let going = held-by-going w has.status has.passes in
      ap (λ ns. slice_get ns j) nodes
      ∙ at-more (slice_set old.nodes k (node_of part y)) (opened children) j node
      (set-stays old.nodes k part has.status y j node has.at going at ended)

  pub lead-stays : (old new : Board) (log : List LogEntry) → Lead t offers old log new
      → (k : ℕ) (node : Node) → IsNode old k node → is_ended node.status ≡ true → IsNode new k node
  lead-stays old new [] same k node at ended = ap (λ b. slice_get b.nodes k) same ∙ at
  lead-stays old new (entry ∷ log) lead k node at ended =
      let now = turn old entry.worker entry.event entry.reply lead.0 lead.1 in
      lead-stays lead.0 new log lead.2 k node (turn-stays old entry.worker entry.event entry.reply lead.0 now k node at ended) ended

  -- ---- its holder ended it

  turn-holder : (old : Board) (w : ℕ) (event : Event) (reply : Reply) (new : Board) → Turn old w event reply new
      → (j : ℕ) (node : Node) → IsNode new j node → is_ended node.status ≡ true
      → IsNode old j node ⊎ (HoldsNode old w j node.part × (ends_node j event reply ≡ true))
  turn-holder old w event reply new (Rests same none) j node at ended = inl (sym (ap (λ b. slice_get b.nodes j) same) ∙ at)
  turn-holder old w event reply new (Gets k v part x there going nodes none) j node at ended =
      elim (at-set-place old.nodes k (node_of part (Held v)) j node (sym (ap (λ ns. slice_get ns j) nodes) ∙ at)) [
        | inl now ↦ absurd (false≢true (sym (ap (λ (n : Node). is_ended n.status) now.1) ∙ ended))
        | inr before ↦ inl before
      ]
  turn-holder old w event reply new (Ends k part y children held over nodes one) j node at ended =
      elim (at-append (slice_set old.nodes k (node_of part y)) (opened children) j node (sym (ap (λ ns. slice_get ns j) nodes) ∙ at)) [
        | inl early ↦ elim (at-set-place old.nodes k (node_of part y) j node early) [
          | inl now ↦ inr (by_worker now.0 now.1)
          | inr before ↦ inl before
        ]
        | inr child ↦ (
            let from = at-map (λ p. node_of p Open) children child.0 node child.1 in
            absurd (false≢true (sym (ap (λ (n : Node). is_ended n.status) from.2) ∙ ended))
            )
      ]
    where
      by_worker : j ≡ k → node ≡ node_of part y → HoldsNode old w j node.part × (ends_node j event reply ≡ true)
      by_worker here same = (
        subst (λ (n : ℕ). HoldsNode old w n node.part) (sym here) (held ∙ ap (λ (n : Node). Some n.part) (sym same)),
        one j ∙ same-number j k here,
      )

  pub step-holder : (old new : Board) (worker k : ℕ) (event : Event) (reply : Reply) (node : Node)
      → Steps t offers old worker event reply new → IsNode new k node → is_ended node.status ≡ true
      → IsNode old k node ⊎ (HoldsNode old worker k node.part × (ends_node k event reply ≡ true))
  step-holder old new worker k event reply node step = turn-holder old worker event reply new (turn old worker event reply new step) k node

  -- ---- it is ended once

  turn-done : (old : Board) (w : ℕ) (event : Event) (reply : Reply) (new : Board) → Turn old w event reply new
      → (j : ℕ) → ends_node j event reply ≡ true → IsDone new j
  turn-done old w event reply new (Rests same none) j is = absurd (false≢true (sym (none j) ∙ is))
  turn-done old w event reply new (Gets k v part x there going nodes none) j is = absurd (false≢true (sym (none j) ∙ is))
  turn-done old w event reply new (Ends k part y children held over nodes one) j is =
      let has = status-at (is_held_by w) old k part held in
      let here : j ≡ k = eqb-true j k (sym (one j) ∙ is) in
      let set = set-here old.nodes k (node_of part has.status) (node_of part y) has.at in
      let now = ap (λ ns. slice_get ns k) nodes ∙ at-more (slice_set old.nodes k (node_of part y)) (opened children) k (node_of part y) set in
      record { node = node_of part y; at = ap (slice_get new.nodes) here ∙ now; ended = over }

  turn-not-again : (old : Board) (w : ℕ) (event : Event) (reply : Reply) (new : Board) → Turn old w event reply new
      → (j : ℕ) → IsDone old j → ends_node j event reply ≡ false
  turn-not-again old w event reply new (Rests same none) j done = none j
  turn-not-again old w event reply new (Gets k v part x there going nodes none) j done = none j
  turn-not-again old w event reply new (Ends k part y children held over nodes one) j done = elim (cases_Bool (j == k)) [
    | inl here ↦ absurd (not-held old w k part (subst (IsDone old) (eqb-true j k here) done) held)
    | inr other ↦ one j ∙ other
  ]

  abbrev endings : ℕ → List LogEntry → ℕ
  endings k log = count_by (λ entry. ends_node k entry.event entry.reply) log

  endings-cons : (k : ℕ) (entry : LogEntry) (log : List LogEntry) (b : Bool) → ends_node k entry.event entry.reply ≡ b
      → endings k (entry ∷ log) ≡ count_one b + endings k log
  endings-cons k entry log b is =
      count-cons (λ e. ends_node k e.event e.reply) entry log ∙ ap (λ here. count_one here + endings k log) is

  lead-none : (old new : Board) (log : List LogEntry) → Lead t offers old log new → (k : ℕ) → IsDone old k → endings k log ≡ 0
  lead-none old new [] same k done = refl
  lead-none old new (entry ∷ log) lead k done =
      let now = turn old entry.worker entry.event entry.reply lead.0 lead.1 in
      let still = turn-stays old entry.worker entry.event entry.reply lead.0 now k done.node done.at done.ended in
      let rest = lead-none lead.0 new log lead.2 k (record { node = done.node; at = still; ended = done.ended }) in
      let here = endings-cons k entry log false (turn-not-again old entry.worker entry.event entry.reply lead.0 now k done) in
      omega (arith, rest, here)

  pub lead-once : (old new : Board) (log : List LogEntry) → Lead t offers old log new → (k : ℕ)
      → count_by (λ entry. ends_node k entry.event entry.reply) log ≤ 1
  lead-once old new [] same k = omega (arith)
  lead-once old new (entry ∷ log) lead k = elim (cases_Bool (ends_node k entry.event entry.reply)) [
    | inl ends ↦ (
        let now = turn old entry.worker entry.event entry.reply lead.0 lead.1 in
        let rest = lead-none lead.0 new log lead.2 k (turn-done old entry.worker entry.event entry.reply lead.0 now k ends) in
        let here = endings-cons k entry log true ends in
        omega (arith, rest, here)
        )
    | inr other ↦ (
        let rest = lead-once lead.0 new log lead.2 k in
        let here = endings-cons k entry log false other in
        omega (arith, rest, here)
        )
  ]

  -- ---- the bound

  -- a bound that is this placement or a better one
  abbrev IsNoWorse : List Entry → Option (List Entry) → Type 0
  IsNoWorse p bound = (q : List Entry) × (bound ≡ Some q) × ((q ≡ p) ⊎ (is_better offers q p ≡ true))

  same-bound : (old new : Option (List Entry)) (p : List Entry) → new ≡ old → old ≡ Some p → IsNoWorse p new
  same-bound old new p same at = (p, same ∙ at, inl refl)

  chosen : (q p : List Entry) (b : Bool) → is_better offers p q ≡ b → IsNoWorse q (if b then Some p else Some q)
  chosen q p true better = (p, refl, inr better)
  chosen q p false worse = (q, refl, inl refl)

  reason-bound : (old new : Board) (part : Part) (y : Status) (p : List Entry) → Reason t offers old new part y → old.bound ≡ Some p
      → IsNoWorse p new.bound
  reason-bound old new part y p (Holds worker bound witnesses) at = same-bound old.bound new.bound p bound at
  reason-bound old new part y p (Cost pruned bound witnesses) at = same-bound old.bound new.bound p bound at
  reason-bound old new part y p (One w shown bound witnesses) at = same-bound old.bound new.bound p bound at
  reason-bound old new part y p (Many ws es shown pruned bound witnesses) at = same-bound old.bound new.bound p bound at
  reason-bound old new part y p (Best forbids bound witnesses) at =
      subst (IsNoWorse p) (sym (bound ∙ ap (λ b. better_of offers b (floor part)) at))
      (chosen p (floor part) (is_better offers (floor part) p) refl)

  move-bound : (old new : Board) (p : List Entry) → Move t offers old new → old.bound ≡ Some p → IsNoWorse p new.bound
  move-bound old new p (Stays same) at = same-bound old.bound new.bound p (ap (λ b. b.bound) same) at
  move-bound old new p (Marks k part x y there unsplit still nodes limit reason) at = reason-bound old new part y p reason at
  move-bound old new p (Splits k part x slot there unsplit free room is) at = same-bound old.bound new.bound p (ap (λ b. b.bound) is) at

  no-worse-still : (p q r : List Entry) → (q ≡ p) ⊎ (is_better offers q p ≡ true) → (r ≡ q) ⊎ (is_better offers r q ≡ true)
      → (r ≡ p) ⊎ (is_better offers r p ≡ true)
  no-worse-still p q r first second = elim second [
    | inl same ↦ subst (λ (s : List Entry). (s ≡ p) ⊎ (is_better offers s p ≡ true)) (sym same) first
    | inr better ↦ elim first [
      | inl same ↦ inr (subst (λ (s : List Entry). is_better offers r s ≡ true) same better)
      | inr before ↦ inr (better-transitive offers r q p better before)
    ]
  ]

  pub lead-bound : (old new : Board) (log : List LogEntry) (p : List Entry) → Lead t offers old log new → old.bound ≡ Some p
      → (q : List Entry) × (new.bound ≡ Some q) × ((q ≡ p) ⊎ (is_better offers q p ≡ true))
  lead-bound old new [] p same at = same-bound old.bound new.bound p (ap (λ b. b.bound) same) at
  lead-bound old new (entry ∷ log) p lead at =
      let now = move-bound old lead.0 p (moves t offers old entry.worker entry.event entry.reply lead.0 lead.1) at in
      let rest = lead-bound lead.0 new log now.0 lead.2 now.1 in
      (rest.0, rest.1, no-worse-still p now.0 rest.0 now.2 rest.2)
