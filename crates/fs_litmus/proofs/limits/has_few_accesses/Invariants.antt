use Rattle.std.proofs.Common.{◌≡◌, ◌≤◌, take}
use Rattle.std.specs.Prelude.{sum_by, count_by}
use Rattle.fs_instr.specs.Instructions.{is_memory}
use Rattle.fs_litmus.proofs.limits.has_few_accesses.Given as goal

abbrev pub invariant-loop-code : goal.invariant-loop-code
invariant-loop-code l = record {
  few : l.total ≤ 48;
  sum : l.total ≡ sum_by (count_by is_memory) (take l.code-index l.codes);
}
