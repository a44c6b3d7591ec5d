use Rattle.std.proofs.Common.{◌≡◌, map}
use Rattle.fs_model.specs.Numbers.{numbers_below}
use Rattle.fs_region_refutation.specs.Beside.{column_of}
use Rattle.fs_region_refutation.proofs.doings.columns.Given as goal

abbrev pub invariant-loop-at : goal.invariant-loop-at
invariant-loop-at l = l.columns.items ≡ map (column_of l.code l.traces) (numbers_below l.at)
