use Rattle.std.proofs.Common.{◌≡◌, take}
use Rattle.fs_region_refutation.specs.inner.Tables.{position_in}
use Rattle.fs_region_refutation.proofs.Firsts.{firsts}
use Rattle.fs_region_refutation.proofs.tables.numbers.Given as goal

abbrev pub invariant-loop-number : goal.invariant-loop-number
invariant-loop-number l = l.table.items ≡ firsts (position_in l.hart l.steps) l.positions (take l.number l.operations)
