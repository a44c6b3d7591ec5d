use Rattle.std.proofs.Common.{◌≡◌, map, take}
use Rattle.fs_app_audit.specs.Unfenced.{eased_instr}
use Rattle.fs_app_audit.proofs.easing.eased_code.Given as goal

-- the instructions so far
abbrev pub invariant-loop-instr : goal.invariant-loop-instr
invariant-loop-instr l = l.made.items ≡ map eased_instr (take l.instr-index l.code)
