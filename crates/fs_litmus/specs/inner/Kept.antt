-- What the reader keeps of codes.
use Rattle.std.specs.Prelude.{List, [], Bool, true, false}
use Rattle.fs_instr.specs.declared.instr.Instr.{Instr}
use Rattle.fs_litmus_syntax.specs.declared.hart.HartCode.{HartCode}
use Rattle.fs_litmus_syntax.specs.declared.hart.HartCode.TheVariants.{Short, Long}

abbrev pub is_short : HartCode → Bool
is_short (Short kept) = true
is_short (Long count) = false

abbrev pub instrs_of : HartCode → List Instr
instrs_of (Short kept) = kept.items
instrs_of (Long count) = []
