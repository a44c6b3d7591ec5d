use Rattle.std.proofs.Common.{◌≡◌, ℕ, length, ◌||◌, ◌&&◌, ltb}
use Rattle.fs_cand_witness.specs.Edges.{has_edge}
use Rattle.fs_cand_witness.proofs.rows.Rows.union.Given as goal

-- the rows below are joined, and the others are as they were
abbrev pub invariant-loop-a : goal.invariant-loop-a
invariant-loop-a l =
    (length l.self-inside.rows ≡ 64)
    × ((x y : ℕ) → has_edge l.self-inside.rows x y ≡ (has_edge l.initial.self-inside.rows x y || (ltb x l.a && has_edge l.other-inside.rows x y)))
