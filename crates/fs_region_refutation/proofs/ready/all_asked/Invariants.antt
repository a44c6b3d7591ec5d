use Rattle.std.proofs.Common.{◌≡◌, take}
use Rattle.std.specs.Arc.{arc_value}
use Rattle.fs_region_refutation.specs.Runs.{all_asked}
use Rattle.fs_region_refutation.proofs.ready.all_asked.Given as goal

abbrev pub invariant-loop-list : goal.invariant-loop-list
invariant-loop-list l = l.made.items ≡ all_asked (arc_value l.test) (take l.list-index l.lists)
