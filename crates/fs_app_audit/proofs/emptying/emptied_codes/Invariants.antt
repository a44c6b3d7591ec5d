use Rattle.std.proofs.Common.{◌≡◌, map, take}
use Rattle.fs_model_laws.specs.InPlace.{emptied_code}
use Rattle.fs_app_audit.proofs.emptying.emptied_codes.Given as goal

-- the codes so far
abbrev pub invariant-loop-code : goal.invariant-loop-code
invariant-loop-code l = l.made.items ≡ map emptied_code (take l.code-index l.codes)
