use Rattle.std.proofs.Common.{◌≡◌, length}
use Rattle.fs_sites.specs.inner.Bars.{IsBar}
use Rattle.fs_sites.proofs.bars.bar_of.Given as goal

abbrev pub invariant-loop-site : goal.invariant-loop-site
invariant-loop-site l = record {
  bar : IsBar l.places l.widths l.bar.items;
  sites : length l.bar.items ≡ l.site;
}
