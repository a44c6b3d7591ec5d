use Rattle.std.proofs.Common.{◌≡◌, ◌≤◌, ℕ, drop, length}
use Rattle.fs_model.specs.Numbers.{has_number, stands_before}
use Rattle.fs_cand_witness.specs.Edges.{has_bit, has_edge}
use Rattle.fs_cand_witness.proofs.order.order_rows.Given as goal

-- the rows of the numbers from here on, and these as bits
abbrev pub invariant-loop-left : goal.invariant-loop-left
invariant-loop-left l =
    (l.left ≤ length l.numbers)
    × ((a b : ℕ) → has_edge l.rows a b ≡ stands_before (drop l.left l.numbers) a b)
    × ((a : ℕ) → has_bit l.later a ≡ has_number (drop l.left l.numbers) a)

abbrev pub decreases-loop-left : goal.decreases-loop-left
decreases-loop-left l = l.left
