use Rattle.std.proofs.Common.{All}
use Rattle.fs_sites.specs.inner.Bars.{AreBars}
use Rattle.fs_sites_search.specs.Seats.{IsOfTest}
use Rattle.fs_sites_search.proofs.together.by_rounds.Given as goal

abbrev pub invariant-loop : goal.invariant-loop
invariant-loop g l = record {
  seats : All (IsOfTest l.parts) l.seats.items;
  bars : AreBars l.parts l.offers l.bars.items;
}
