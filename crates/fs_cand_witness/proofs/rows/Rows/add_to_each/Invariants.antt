use Rattle.std.proofs.Common.{◌≡◌, ℕ, ◌<◌, ◌||◌, ◌&&◌, length}
use Rattle.std.proofs.Common.{not}
use Rattle.std.specs.Int.{bit_at}
use Rattle.fs_cand_witness.specs.Edges.{has_edge, has_bit}
use Rattle.fs_cand_witness.proofs.Bitwise.{count_below}
use Rattle.fs_cand_witness.proofs.rows.Rows.add_to_each.Given as goal

-- the numbers that are not left have their edges
abbrev pub invariant-loop-left : goal.invariant-loop-left
invariant-loop-left l =
    (length l.self-inside.rows ≡ 64)
    × (((x : ℕ) → bit_at l.left x ≡ 1 → bit_at l.from x ≡ 1)
    × ((x y : ℕ) → x < 64 → has_edge l.self-inside.rows x y ≡ (has_edge l.initial.self-inside.rows x y || ((has_bit l.from x && not (has_bit l.left x)) && has_bit l.to y))))

abbrev pub decreases-loop-left : goal.decreases-loop-left
decreases-loop-left l = count_below l.left 64
