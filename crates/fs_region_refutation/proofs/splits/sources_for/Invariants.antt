use Rattle.std.proofs.Common.{◌≡◌, ◌++◌, ◌∷◌, [], filter, map, take}
use Rattle.fs_cert_evidence.specs.Regions.{Initial, From}
use Rattle.fs_cert_evidence.specs.Splits.{is_left, can_be_source}
use Rattle.fs_region_refutation.specs.Alone.{source_of}
use Rattle.fs_region_refutation.specs.Views.{known_source}
use Rattle.fs_region_refutation.proofs.Lists.{kept_made_kept}
use Rattle.fs_region_refutation.proofs.splits.sources_for.Given as goal

abbrev pub invariant-loop-store : goal.invariant-loop-store
invariant-loop-store l =
    map source_of l.sources.items
    ≡ filter (is_left (known_source l.known)) (Initial ∷ [])
    ++ kept_made_kept (is_left (known_source l.known)) From (can_be_source l.load) (take l.store-index l.store-items)
