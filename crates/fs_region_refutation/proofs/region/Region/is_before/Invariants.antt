use Rattle.std.proofs.Common.{◌≡◌, drop}
use Rattle.std.specs.Arc.{arc_value}
use Rattle.fs_region_refutation.specs.Views.{is_in_order}
use Rattle.fs_region_refutation.proofs.region.Region.is_before.Given as goal

abbrev pub invariant-loop-known : goal.invariant-loop-known
invariant-loop-known l =
    is_in_order (arc_value l.self.orders) l.first l.second ≡ is_in_order (drop l.known-index (arc_value l.self.orders)) l.first l.second
