use Rattle.std.proofs.Common.{◌≡◌, map, take}
use Rattle.fs_region_refutation.specs.Views.{lists_in}
use Rattle.fs_region_refutation.specs.inner.Asked.{values_in}
use Rattle.fs_region_refutation.proofs.root.all_runs.Given as goal

abbrev pub invariant-loop-list : goal.invariant-loop-list
invariant-loop-list l = map values_in (lists_in l.runs.items) ≡ take l.list-index l.listed
