use Rattle.std.proofs.Common.{◌≡◌, ◌+◌, ◌-◌, ◌<◌, ◌≤◌}
use Rattle.std.specs.Prelude.{slice_index}
use Rattle.fs_cand_witness.proofs.Walk.{IsWalk}
use Rattle.fs_cand_witness.proofs.cycles.judge.Given as goal

abbrev pub invariant-loop-unvisited : goal.invariant-loop-unvisited
invariant-loop-unvisited l = IsWalk l.rows l.order l.path l.n l.left 0 l.unvisited 0

abbrev pub decreases-loop-unvisited : goal.decreases-loop-unvisited
decreases-loop-unvisited l = l.left

abbrev pub invariant-walk : goal.invariant-walk
invariant-walk l = IsWalk l.rows l.order l.path l.n l.left l.len l.unvisited l.on_path × ((0 < l.len) × ((slice_index l.path (l.len - 1) ≡ l.at) × (l.left ≤ l.initial.left)))

abbrev pub decreases-walk : goal.decreases-walk
decreases-walk l = l.left + (l.left - l.len)
