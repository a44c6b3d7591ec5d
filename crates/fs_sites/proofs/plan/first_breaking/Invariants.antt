use Rattle.std.proofs.Common.{◌≤◌, length}
use Rattle.fs_sites.specs.Sinking.{Begins}
use Rattle.fs_sites.specs.Walks.{IsBestBefore}
use Rattle.fs_sites.proofs.plan.first_breaking.Given as goal

abbrev pub invariant-loop : goal.invariant-loop
invariant-loop l = record {
  begins : Begins l.offers l.cursor.items;
  short : length l.cursor.items ≤ length l.offers;
  best : IsBestBefore l.offers l.bars l.cursor.items l.best;
}
