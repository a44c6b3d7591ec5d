use Rattle.std.proofs.Common.{◌≡◌, ◌++◌, flat_map, take}
use Rattle.std.specs.List.{enumerate_from}
use Rattle.fs_app_audit.specs.Audit.{written_fence}
use Rattle.fs_app_audit.proofs.findings.push_fences.Given as goal

-- the fences so far
abbrev pub invariant-loop-at : goal.invariant-loop-at
invariant-loop-at l =
    l.fences.items ≡ l.initial.fences.items ++ flat_map (written_fence l.hart l.code) (take l.at (enumerate_from 0 l.code))
