use Rattle.std.proofs.Common.{◌≡◌, ℕ, ◌<◌, true, Some, slice_get}
use Rattle.std.specs.List.{list_any}
use Rattle.fs_kinds.specs.Slot.{is_same_slot}
use Rattle.fs_cand_witness.specs.declared.points.Sides.{Sides}
use Rattle.fs_cand_witness.specs.inner.Widening.{AreTried, IsMadeOf, IsWider}
use Rattle.fs_cand_witness.proofs.widen.widened.Given as goal

-- what is added takes no edge away, leaves an order, and is pairs alone; the places of the first slots are tried
abbrev pub invariant-loop-side : goal.invariant-loop-side
invariant-loop-side l =
    IsWider l.n l.rows l.wider
    × IsMadeOf l.rows l.sides l.wider
    × ((k : ℕ) (other : Sides) → k < l.side-index → slice_get l.sides k ≡ Some other
    → list_any (λ s. is_same_slot s other.slot) l.first ≡ true → AreTried l.n l.wider other)

-- and then the others
abbrev pub invariant-loop-side-2 : goal.invariant-loop-side-2
invariant-loop-side-2 l =
    IsWider l.n l.rows l.wider
    × IsMadeOf l.rows l.sides l.wider
    × ((k : ℕ) (other : Sides) → slice_get l.sides k ≡ Some other → list_any (λ s. is_same_slot s other.slot) l.first ≡ true → AreTried l.n l.wider other)
    × ((k : ℕ) (other : Sides) → k < l.side-index → slice_get l.sides k ≡ Some other → AreTried l.n l.wider other)
