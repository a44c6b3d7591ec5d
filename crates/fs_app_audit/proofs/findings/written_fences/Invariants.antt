use Rattle.std.proofs.Common.{◌≡◌, flat_map, take}
use Rattle.std.specs.List.{enumerate_from}
use Rattle.fs_app_audit.specs.Audit.{code_fences}
use Rattle.fs_app_audit.proofs.findings.written_fences.Given as goal

-- the fences so far
abbrev pub invariant-loop-hart : goal.invariant-loop-hart
invariant-loop-hart l = l.fences.items ≡ flat_map code_fences (take l.hart (enumerate_from 0 l.codes))
