use Rattle.std.proofs.Common.{◌≡◌, drop}
use Rattle.std.specs.Arc.{arc_value}
use Rattle.fs_region_refutation.specs.Views.{source_in}
use Rattle.fs_region_refutation.proofs.region.Region.source.Given as goal

abbrev pub invariant-loop-known : goal.invariant-loop-known
invariant-loop-known l =
    source_in (arc_value l.self.sources) l.load ≡ source_in (drop l.known-index (arc_value l.self.sources)) l.load
