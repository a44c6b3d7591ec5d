use Rattle.std.proofs.Common.{◌≡◌, List, take}
use Rattle.fs_instr.specs.declared.instr.Instr.{Instr}
use Rattle.fs_litmus_syntax.specs.inner.Listings.{marked}
use Rattle.fs_litmus_syntax.specs.Lines.{lines_of}
use Rattle.fs_litmus_syntax.proofs.lines.lines_of.Given as goal

-- the lines so far, which don't depend on the instructions themselves
abbrev pub invariant-loop-mark : goal.invariant-loop-mark
invariant-loop-mark l = (code : List Instr) → l.lines.items ≡ lines_of (marked code (take l.mark-index l.mark-items))
