use Rattle.std.proofs.Common.{◌≡◌, ◌≤◌, take}
use Rattle.std.specs.List.{count_by}
use Rattle.fs_check_certificate.specs.Breaks.{is_breakable_at, breaks_at}
use Rattle.fs_check_certificate.proofs.bounds.breaks_one.Given as goal

abbrev pub invariant-loop-number : goal.invariant-loop-number
invariant-loop-number l = record {
  so_far : l.count ≡ count_by (λ j. is_breakable_at l.k l.decision (breaks_at l.breaks j)) (take l.number-index l.numbers);
  most : l.count ≤ l.number-index;
}
