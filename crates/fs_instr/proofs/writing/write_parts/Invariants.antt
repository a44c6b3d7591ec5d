use Rattle.std.proofs.Common.{◌≡◌, ◌++◌, drop}
use Rattle.std.specs.String.{string_bytes}
use Rattle.fs_instr.specs.Writing.{parts_text}
use Rattle.fs_instr.proofs.writing.write_parts.Given as goal

abbrev pub invariant-loop-part : goal.invariant-loop-part
invariant-loop-part l = string_bytes l.line ++ parts_text (drop l.part-index l.parts) l.operands ≡ string_bytes l.initial.line ++ parts_text l.parts l.operands
