use Rattle.std.proofs.Common.{◌≡◌, ◌≤◌, length}
use Rattle.fs_sites.specs.inner.Bars.{AreBars}
use Rattle.fs_sites_search.proofs.rounds.by_rounds.Given as goal

abbrev pub invariant-loop : goal.invariant-loop
invariant-loop l = record {
  same : l.judges ≡ l.initial.judges;
  bars : AreBars l.parts l.offers l.bars.items;
  most : l.first ≤ length l.parts;
}
