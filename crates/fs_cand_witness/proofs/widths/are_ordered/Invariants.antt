use Rattle.std.proofs.Common.{◌≡◌, ℕ, ◌<◌, true, false}
use Rattle.std.specs.Int.{bit_at}
use Rattle.fs_cand_witness.specs.Edges.{has_bit, has_edge}
use Rattle.fs_cand_witness.proofs.Bitwise.{count_below}
use Rattle.fs_cand_witness.proofs.widths.are_ordered.Given as goal

-- those of the first that are not left come before each of the second
abbrev pub invariant-loop-left : goal.invariant-loop-left
invariant-loop-left l =
    ((a : ℕ) → bit_at l.left a ≡ 1 → bit_at l.first a ≡ 1)
    × ((a b : ℕ) → a < 64 → b < 64 → has_bit l.first a ≡ true → has_bit l.left a ≡ false → has_bit l.second b ≡ true
    → has_edge l.rows a b ≡ true)

abbrev pub decreases-loop-left : goal.decreases-loop-left
decreases-loop-left l = count_below l.left 64
