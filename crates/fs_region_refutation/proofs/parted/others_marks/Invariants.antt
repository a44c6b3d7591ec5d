use Rattle.std.proofs.Common.{◌≡◌, map}
use Rattle.fs_model.specs.Numbers.{numbers_below}
use Rattle.fs_region_refutation.specs.Views.{region_of}
use Rattle.fs_region_refutation.specs.inner.Each.{others_are_quiet}
use Rattle.fs_region_refutation.proofs.parted.others_marks.Given as goal

abbrev pub invariant-loop-location : goal.invariant-loop-location
invariant-loop-location l = l.marks.items ≡ map (others_are_quiet (region_of l.region) l.names) (numbers_below l.location)
