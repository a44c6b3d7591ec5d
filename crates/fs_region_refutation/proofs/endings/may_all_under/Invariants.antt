use Rattle.std.proofs.Common.{◌≡◌, map}
use Rattle.fs_region_refutation.specs.Views.{region_of}
use Rattle.fs_region_refutation.proofs.Each.{may_first}
use Rattle.fs_region_refutation.proofs.endings.may_all_under.Given as goal

abbrev pub invariant-loop-wanted : goal.invariant-loop-wanted
invariant-loop-wanted l =
    l.marks.items ≡ map (may_first l.basis l.names.hart (region_of l.region) l.wanted-items l.wanted-index) ((region_of l.region).runs l.names.hart)
