use Rattle.std.proofs.Common.{◌≡◌, ◌++◌, ◌∷◌, [], filter, take}
use Rattle.fs_cert_evidence.specs.Splits.{from_nothing, from_source}
use Rattle.fs_cert_evidence.specs.Trees.{is_open}
use Rattle.fs_region_refutation.specs.Alone.{source_of}
use Rattle.fs_region_refutation.specs.Views.{region_of, regions_of, AreOf}
use Rattle.fs_region_refutation.proofs.Lists.{made_and_kept}
use Rattle.fs_region_refutation.proofs.splits.by_source.Given as goal

abbrev pub invariant-loop-source : goal.invariant-loop-source
invariant-loop-source l =
    (regions_of l.left.items
    ≡ filter (is_open l.basis) (from_nothing l.load (region_of l.region) ∷ [])
    ++ made_and_kept (is_open l.basis) (λ source. from_source l.basis l.load (region_of l.region) (source_of source))
    (take l.source-index l.source-items))
    × AreOf l.basis l.left.items
