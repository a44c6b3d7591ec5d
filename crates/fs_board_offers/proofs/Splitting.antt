-- The children of a split node stand behind one another, from the number on that its status says.
use Rattle.std.proofs.Common.{◌≡◌, ◌⊎◌, ℕ, zero, suc, ◌+◌, true, false, Some, option_map, List, [], ◌∷◌, ◌++◌, length, inl, inr, refl, sym, ap, subst, ◌∙◌, arith}
use Rattle.std.specs.Prelude.{slice_get, slice_set}
use Rattle.std.proofs.lemmas.Bool.{true≢false}
use Rattle.std.proofs.lemmas.Option.{slice_get_within, slice_get-map}
use Rattle.fs_kinds.specs.declared.slot.Slot.{Slot}
use Rattle.fs_board_offers.specs.Offers.{Offers}
use Rattle.fs_model.specs.declared.test.Test.{Test}
use Rattle.fs_board_offers.specs.Parts.{Part, undecided, is_undecided, child_parts}
use Rattle.fs_board_offers.specs.Board.{Board, Node, Status, Open, Split, opening}
use Rattle.fs_board_offers.specs.Histories.{LogEntry, Lead, IsHistory}
use Rattle.fs_board_offers.specs.Trees.{is_split, IsNode, IsSplitAt}
use Rattle.fs_model_laws.proofs.Places.{at-set, at-append, at-map, at-more, at-end, length-set}
use Rattle.fs_board_offers.proofs.Moves.{node_of, Move, Stays, Marks, Splits, moves}
use Rattle.fs_board_offers.proofs.Leaves.{opened}

-- ---- places

pub still-there : {X : Type 0} (xs : List X) (k : ℕ) (x y : X) (j : ℕ) (z : X) → slice_get xs k ≡ Some x → slice_get xs j ≡ Some z
    → (slice_get (slice_set xs k y) j ≡ Some z) ⊎ ((z ≡ x) × (slice_get (slice_set xs k y) j ≡ Some y))
still-there [] k x y j z at there = absurd (cc)
still-there (w ∷ ws) zero x y zero z at there = inr (cc, refl)
still-there (w ∷ ws) zero x y (suc j) z at there = inl there
still-there (w ∷ ws) (suc k) x y zero z at there = inl there
still-there (w ∷ ws) (suc k) x y (suc j) z at there = still-there ws k x y j z at there

pub at-set-place : {X : Type 0} (xs : List X) (k : ℕ) (y : X) (j : ℕ) (x : X) → slice_get (slice_set xs k y) j ≡ Some x
    → ((j ≡ k) × (x ≡ y)) ⊎ (slice_get xs j ≡ Some x)
at-set-place [] k y j x at = inr at
at-set-place (z ∷ zs) zero y zero x at = inl (refl, cc)
at-set-place (z ∷ zs) zero y (suc j) x at = inr at
at-set-place (z ∷ zs) (suc k) y zero x at = inr at
at-set-place (z ∷ zs) (suc k) y (suc j) x at = elim (at-set-place zs k y j x at) [
  | inl same ↦ inl (ap suc same.0, same.1)
  | inr before ↦ inr before
]

-- the node of this number, of this part
abbrev IsPartAt : List Node → ℕ → Part → Type 0
IsPartAt nodes k part = (status : Status) × (slice_get nodes k ≡ Some (node_of part status))

part-still : (nodes : List Node) (k : ℕ) (part : Part) (x y : Status) (j : ℕ) (other : Part) → slice_get nodes k ≡ Some (node_of part x)
    → IsPartAt nodes j other → IsPartAt (slice_set nodes k (node_of part y)) j other
part-still nodes k part x y j other at there =
    elim (still-there nodes k (node_of part x) (node_of part y) j (node_of other there.0) at there.1) [
      | inl same ↦ (there.0, same)
      | inr changed ↦ (y, changed.1 ∙ ap (λ (n : Node). Some (node_of n.part y)) (sym changed.0))
    ]

part-more : (nodes more : List Node) (j : ℕ) (other : Part) → IsPartAt nodes j other → IsPartAt (nodes ++ more) j other
part-more nodes more j other there = (there.0, at-more nodes more j (node_of other there.0) there.1)

module _ (t : Test) (offers : Offers) where
  -- what holds of each node that is split
  abbrev AreSplit : List Node → Type 0
  AreSplit nodes = (k : ℕ) (part : Part) (slot : Slot) (first : ℕ) → slice_get nodes k ≡ Some (node_of part (Split slot first))
      → IsSplitAt offers nodes k part slot first

  grown : (nodes more : List Node) (k : ℕ) (part : Part) (slot : Slot) (first : ℕ) → IsSplitAt offers nodes k part slot first
      → ((j : ℕ) (other : Part) → IsPartAt nodes j other → IsPartAt more j other) → IsSplitAt offers more k part slot first
  grown nodes more k part slot first is keeps = record {
    free = is.free;
    later = is.later;
    children = λ i child at. keeps (first + i) child (is.children i child at);
  }

  marked : (nodes : List Node) (k : ℕ) (part : Part) (x y : Status) → slice_get nodes k ≡ Some (node_of part x) → is_split y ≡ false
      → AreSplit nodes → AreSplit (slice_set nodes k (node_of part y))
  marked nodes k part x y at still each = λ j other slot first there.
      elim (at-set nodes k (node_of part y) j (node_of other (Split slot first)) there) [
        | inl same ↦ absurd (true≢false (ap (λ (n : Node). is_split n.status) same ∙ still))
        | inr before ↦ grown nodes (slice_set nodes k (node_of part y)) j other slot first (each j other slot first before)
            (λ i child is. part-still nodes k part x y i child at is)
      ]

  abbrev split-first : Status → ℕ
  split-first (Split slot first) = first
  split-first status = 0

  abbrev split-slot : Slot → Status → Slot
  split-slot default (Split slot first) = slot
  split-slot default status = default

  split-now : (nodes : List Node) (k : ℕ) (part : Part) (x : Status) (slot : Slot) → slice_get nodes k ≡ Some (node_of part x)
      → is_undecided slot part ≡ true
      → IsSplitAt offers (slice_set nodes k (node_of part (Split slot (length nodes))) ++ opened (child_parts offers slot part)) k part slot (length nodes)
  split-now nodes k part x slot at free = record {
    free = free;
    later = slice_get_within nodes k (node_of part x) at;
    children = λ i child there.
        let set = slice_set nodes k (node_of part (Split slot (length nodes))) in
        let long = length-set nodes k (node_of part (Split slot (length nodes))) in
        let opened_child = slice_get-map (λ p. node_of p Open) (child_parts offers slot part) i ∙ ap (option_map (λ p. node_of p Open)) there in
        (Open, at-end set (opened (child_parts offers slot part)) (length nodes + i) i (node_of child Open) (omega (arith, long)) opened_child);
  }

  split : (nodes : List Node) (k : ℕ) (part : Part) (x : Status) (slot : Slot) → slice_get nodes k ≡ Some (node_of part x)
      → is_undecided slot part ≡ true → AreSplit nodes
      → AreSplit (slice_set nodes k (node_of part (Split slot (length nodes))) ++ opened (child_parts offers slot part))
  split nodes k part x slot at free each = λ j other slot' first there.
      let now = node_of part (Split slot (length nodes)) in
      let set = slice_set nodes k now in
      elim (at-append set (opened (child_parts offers slot part)) j (node_of other (Split slot' first)) there) [
        | inl early ↦ elim (at-set-place nodes k now j (node_of other (Split slot' first)) early) [
          | inl same ↦ (
              let place : j ≡ k = same.0 in
              let is = split-now nodes k part x slot at free in
              subst (λ (n : ℕ). IsSplitAt offers (set ++ opened (child_parts offers slot part)) n other slot' first) (sym place)
              (subst (λ (n : Node). IsSplitAt offers (set ++ opened (child_parts offers slot part)) k n.part (split-slot slot n.status) (split-first n.status))
              (sym same.1) is)
              )
          | inr before ↦ grown nodes (set ++ opened (child_parts offers slot part)) j other slot' first (each j other slot' first before)
              (λ i child is. part-more set (opened (child_parts offers slot part)) i child
              (part-still nodes k part x (Split slot (length nodes)) i child at is))
        ]
        | inr child ↦ (
            let from = at-map (λ p. node_of p Open) (child_parts offers slot part) child.0 (node_of other (Split slot' first)) child.1 in
            absurd (true≢false (ap (λ (n : Node). is_split n.status) from.2))
            )
      ]

  move-split : (old new : Board) → AreSplit old.nodes → Move t offers old new → AreSplit new.nodes
  move-split old new each (Stays same) = subst (λ (b : Board). AreSplit b.nodes) (sym same) each
  move-split old new each (Marks k part x y at unsplit still nodes limit reason) =
      subst AreSplit (sym nodes) (marked old.nodes k part x y at still each)
  move-split old new each (Splits k part x slot at unsplit free room is) =
      subst (λ (b : Board). AreSplit b.nodes) (sym is) (split old.nodes k part x slot at free each)

  lead-split : (old : Board) (log : List LogEntry) (new : Board) → AreSplit old.nodes → Lead t offers old log new → AreSplit new.nodes
  lead-split old [] new each same = subst (λ (b : Board). AreSplit b.nodes) (sym same) each
  lead-split old (entry ∷ log) new each lead =
      lead-split lead.0 log new (move-split old lead.0 each (moves t offers old entry.worker entry.event entry.reply lead.0 lead.1)) lead.2

  root-split : (limit : ℕ) → AreSplit (opening offers limit).nodes
  root-split limit zero part slot first at =
      let same : node_of (undecided offers) Open ≡ node_of part (Split slot first) = cc in
      absurd (true≢false (sym (ap (λ (n : Node). is_split n.status) same)))
  root-split limit (suc k) part slot first at = absurd (cc)

  pub history-split : (limit : ℕ) (log : List LogEntry) (board : Board) → IsHistory t offers limit log board
      → (k : ℕ) (part : Part) (slot : Slot) (first : ℕ) → IsNode board k (node_of part (Split slot first))
      → IsSplitAt offers board.nodes k part slot first
  history-split limit log board history = lead-split (opening offers limit) log board (root-split limit) history
