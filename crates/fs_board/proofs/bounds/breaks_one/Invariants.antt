use Rattle.std.proofs.Common.{◌≡◌, ◌≤◌, take}
use Rattle.std.specs.List.{count_by}
use Rattle.fs_board.specs.inner.Breaks.{is_breakable_at, widths_in}
use Rattle.fs_board.proofs.bounds.breaks_one.Given as goal

abbrev pub invariant-loop-witness : goal.invariant-loop-witness
invariant-loop-witness l = record {
  so_far : l.count ≡ count_by (λ w. is_breakable_at l.offers l.k l.decision (widths_in w)) (take l.witness-index l.witnesses);
  most : l.count ≤ l.witness-index;
}
