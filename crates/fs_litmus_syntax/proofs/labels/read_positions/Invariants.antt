use Rattle.std.proofs.Common.{◌≤◌, List, take}
use Rattle.fs_instr.specs.declared.instr.Instr.{Instr}
use Rattle.std.specs.Str.{bytes_eq}
use Rattle.indexmap.specs.IndexMap.{get_by}
use Rattle.fs_litmus_syntax.specs.inner.Listings.{marked}
use Rattle.fs_litmus_syntax.proofs.LabelLemmas.{LabelsRead}
use Rattle.fs_litmus_syntax.proofs.labels.read_positions.Given as goal

abbrev pub invariant-loop-mark : goal.invariant-loop-mark
invariant-loop-mark l = record {
  small : l.number ≤ l.mark-index;
  read : (code : List Instr) → LabelsRead (marked code (take l.mark-index l.mark-items)) l.number (λ w. get_by (λ k. bytes_eq w k.now) l.positions) l.fault;
}
