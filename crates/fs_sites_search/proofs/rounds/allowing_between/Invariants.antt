use Rattle.std.proofs.Common.{◌≡◌}
use Rattle.fs_sites.specs.inner.Bars.{ForbidBetween}
use Rattle.fs_sites_search.proofs.rounds.allowing_between.Given as goal

abbrev pub invariant-loop-number : goal.invariant-loop-number
invariant-loop-number l = record {
  same : l.judges ≡ l.initial.judges;
  forbid : ForbidBetween l.parts l.fn.from l.number l.placement;
}
