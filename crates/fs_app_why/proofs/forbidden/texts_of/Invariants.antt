use Rattle.std.proofs.Common.{◌≡◌, map, take}
use Rattle.fs_instr.specs.Writing.{instr_text}
use Rattle.fs_app_why.proofs.forbidden.texts_of.Given as goal

abbrev pub invariant-loop-code : goal.invariant-loop-code
invariant-loop-code l = l.texts.items ≡ map (map instr_text) (take l.code-index l.codes)
