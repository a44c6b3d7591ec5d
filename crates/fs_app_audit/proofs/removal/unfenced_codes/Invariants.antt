use Rattle.std.proofs.Common.{◌≡◌, map, take}
use Rattle.fs_app_audit.specs.Unfenced.{unfenced_code}
use Rattle.fs_app_audit.proofs.removal.unfenced_codes.Given as goal

-- the codes so far
abbrev pub invariant-loop-code : goal.invariant-loop-code
invariant-loop-code l = l.made.items ≡ map unfenced_code (take l.code-index l.codes)
