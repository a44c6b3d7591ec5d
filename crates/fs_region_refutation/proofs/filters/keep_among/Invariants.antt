use Rattle.std.proofs.Common.{◌≡◌, filter, take}
use Rattle.fs_region_refutation.specs.inner.Pairs.{is_among, pair_at}
use Rattle.fs_region_refutation.proofs.filters.keep_among.Given as goal

abbrev pub invariant-loop-run : goal.invariant-loop-run
invariant-loop-run l =
    (l.kept.items ≡ filter (λ run. is_among l.pairs (pair_at l.access l.at run.now.steps)) (take l.run-index l.runs))
    × (l.among ≡ is_among l.pairs l.last)
