use Rattle.std.proofs.Common.{◌≡◌, drop}
use Rattle.std.specs.List.{list_any}
use Rattle.fs_cert_evidence.specs.Regions.{names}
use Rattle.fs_region_refutation.specs.Views.{region_of}
use Rattle.fs_region_refutation.proofs.parted.is_overtaken.Given as goal

abbrev pub invariant-loop-other : goal.invariant-loop-other
invariant-loop-other l =
    list_any ((region_of l.region).before l.name) (names l.basis)
    ≡ list_any ((region_of l.region).before l.name) (drop l.other-index (names l.basis))
