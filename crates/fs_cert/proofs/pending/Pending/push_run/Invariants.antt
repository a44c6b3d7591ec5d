use Rattle.std.proofs.Common.{◌≡◌, ◌+◌, ◌-◌, ◌++◌}
use Rattle.std.specs.List.{range_with_len}
use Rattle.fs_cert.proofs.pending.Pending.push_run.Given as goal

-- the nodes from this place on stand before the others
abbrev pub invariant-loop-place : goal.invariant-loop-place
invariant-loop-place l = l.self ≡ range_with_len (l.first + l.place) (l.count - l.place) ++ l.fn.self
