use Rattle.std.proofs.Common.{◌≡◌, ◌≤◌, List, take}
use Rattle.fs_instr.specs.declared.instr.Instr.{Instr}
use Rattle.fs_litmus_syntax.specs.inner.Listings.{marked}
use Rattle.fs_litmus_syntax.specs.Labels.{instruction_count, IsStray}
use Rattle.fs_kinds.specs.FaultOrder.{IsFirstOf}
use Rattle.fs_litmus_syntax.proofs.branches.first_stray.Given as goal

abbrev pub invariant-loop-mark : goal.invariant-loop-mark
invariant-loop-mark l = record {
  small : l.number ≤ l.mark-index;
  count : (code : List Instr) → l.number ≡ instruction_count (marked code (take l.mark-index l.mark-items));
  first : (code : List Instr) → IsFirstOf (IsStray l.listing (marked code (take l.mark-index l.mark-items))) l.fault;
}
