use Rattle.std.proofs.Common.{◌≡◌, map, take}
use Rattle.fs_instr.specs.Writing.{instr_text}
use Rattle.fs_app_why.proofs.forbidden.texts_of_code.Given as goal

abbrev pub invariant-loop-instr : goal.invariant-loop-instr
invariant-loop-instr l = l.texts.items ≡ map instr_text (take l.instr-index l.code)
