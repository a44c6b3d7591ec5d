use Rattle.std.proofs.Common.{◌≡◌, ℕ, ◌<◌, ◌≤◌, length, get_or, bit_or}
use Rattle.fs_cand_witness.proofs.rows.Rows.join.Given as goal

-- the rows below are joined, and the others are as they were
abbrev pub invariant-loop-a : goal.invariant-loop-a
invariant-loop-a l =
    (length l.self-inside.rows ≡ 64)
    × (((x : ℕ) → x < l.a → get_or l.self-inside.rows x 0 ≡ bit_or (get_or l.first-inside.rows x 0) (get_or l.second-inside.rows x 0))
    × ((x : ℕ) → l.a ≤ x → get_or l.self-inside.rows x 0 ≡ get_or l.initial.self-inside.rows x 0))
