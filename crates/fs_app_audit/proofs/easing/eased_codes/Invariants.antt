use Rattle.std.proofs.Common.{◌≡◌, map, take}
use Rattle.fs_app_audit.specs.Unfenced.{eased_code}
use Rattle.fs_app_audit.proofs.easing.eased_codes.Given as goal

-- the codes so far
abbrev pub invariant-loop-code : goal.invariant-loop-code
invariant-loop-code l = l.made.items ≡ map eased_code (take l.code-index l.codes)
