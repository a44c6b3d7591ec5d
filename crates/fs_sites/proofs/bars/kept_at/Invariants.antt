use Rattle.fs_sites.specs.inner.Bars.{AreKeptBefore}
use Rattle.fs_sites.proofs.bars.kept_at.Given as goal

abbrev pub invariant-loop-k : goal.invariant-loop-k
invariant-loop-k l = AreKeptBefore l.k l.places l.widths l.site l.kept
