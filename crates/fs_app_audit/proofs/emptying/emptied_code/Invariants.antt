use Rattle.std.proofs.Common.{◌≡◌, map, take}
use Rattle.fs_model_laws.specs.InPlace.{emptied_instr}
use Rattle.fs_app_audit.proofs.emptying.emptied_code.Given as goal

-- the instructions so far
abbrev pub invariant-loop-instr : goal.invariant-loop-instr
invariant-loop-instr l = l.made.items ≡ map emptied_instr (take l.instr-index l.code)
