use Rattle.std.proofs.Common.{◌≡◌, ◌+◌, ◌-◌, ◌<◌, ◌≤◌}
use Rattle.std.specs.Prelude.{slice_index}
use Rattle.fs_cand_witness.proofs.Bitwise.{count_below}
use Rattle.fs_cand_witness.proofs.Walk.{IsWalked}
use Rattle.fs_cand_witness.proofs.cycles.has_order.Given as goal

abbrev pub invariant-loop-unvisited : goal.invariant-loop-unvisited
invariant-loop-unvisited l = IsWalked l.rows l.path l.n 0 l.unvisited 0

abbrev pub decreases-loop-unvisited : goal.decreases-loop-unvisited
decreases-loop-unvisited l = count_below l.unvisited l.n

abbrev pub invariant-walk : goal.invariant-walk
invariant-walk l =
    IsWalked l.rows l.path l.n l.len l.unvisited l.on_path
    × ((0 < l.len) × ((slice_index l.path (l.len - 1) ≡ l.at) × (count_below l.unvisited l.n ≤ count_below l.initial.unvisited l.n)))

abbrev pub decreases-walk : goal.decreases-walk
decreases-walk l = count_below l.unvisited l.n + (count_below l.unvisited l.n + l.len)
