use Rattle.fs_sites.specs.inner.Bars.{AreBars}
use Rattle.fs_sites_search.proofs.together.add_bars.Given as goal

abbrev pub invariant-loop-number : goal.invariant-loop-number
invariant-loop-number l = AreBars l.parts l.offers l.bars.items
