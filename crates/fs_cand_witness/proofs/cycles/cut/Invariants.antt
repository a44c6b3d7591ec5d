use Rattle.std.proofs.Common.{◌≡◌, ℕ, ◌+◌, ◌-◌, ◌<◌, length}
use Rattle.std.specs.Prelude.{slice_index}
use Rattle.fs_cand_witness.proofs.cycles.cut.Given as goal

-- what was cut so far stands at the front
abbrev pub invariant-loop-i : goal.invariant-loop-i
invariant-loop-i l = (length l.front ≡ 64) × ((k : ℕ) → k < l.i - l.from → slice_index l.front k ≡ slice_index l.path (l.from + k))
