use Rattle.std.proofs.Common.{◌≡◌, ◌≤◌, List, take}
use Rattle.fs_instr.specs.declared.instr.Instr.{Instr}
use Rattle.fs_litmus_syntax.specs.inner.Listings.{marked}
use Rattle.fs_litmus_syntax.specs.Labels.{instruction_count}
use Rattle.fs_litmus_syntax.proofs.branches.instruction_count.Given as goal

abbrev pub invariant-loop-mark : goal.invariant-loop-mark
invariant-loop-mark l = record {
  small : l.number ≤ l.mark-index;
  count : (code : List Instr) → l.number ≡ instruction_count (marked code (take l.mark-index l.mark-items));
}
