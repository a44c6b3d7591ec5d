use Rattle.std.proofs.Common.{◌≡◌, ℕ, ◌-◌, ◌<◌, ◌≤◌, true}
use Rattle.std.specs.Prelude.{slice_index}
use Rattle.fs_cand_witness.specs.Edges.{has_edge}
use Rattle.fs_cand_witness.proofs.cycles.cycle.Given as goal

-- an edge leads back to a number that is not past `start`
abbrev pub invariant-loop-start : goal.invariant-loop-start
invariant-loop-start l = (l.start < l.len) × ((i : ℕ) × (i ≤ l.start) × (has_edge l.rows (slice_index l.path (l.len - 1)) (slice_index l.path i) ≡ true))

abbrev pub decreases-loop-start : goal.decreases-loop-start
decreases-loop-start l = l.start
