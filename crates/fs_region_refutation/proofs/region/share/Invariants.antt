use Rattle.std.proofs.Common.{◌≡◌, take}
use Rattle.fs_region_refutation.specs.Views.{lists_in}
use Rattle.fs_region_refutation.proofs.region.share.Given as goal

abbrev pub invariant-loop-list : goal.invariant-loop-list
invariant-loop-list l = lists_in l.shared.items ≡ lists_in (take l.list-index l.runs)
