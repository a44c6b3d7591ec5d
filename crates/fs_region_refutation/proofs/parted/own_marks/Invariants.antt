use Rattle.std.proofs.Common.{◌≡◌, map}
use Rattle.fs_model.specs.Numbers.{numbers_below}
use Rattle.fs_region_refutation.specs.Views.{runs_of}
use Rattle.fs_region_refutation.specs.inner.Each.{own_are_quiet}
use Rattle.fs_region_refutation.proofs.parted.own_marks.Given as goal

abbrev pub invariant-loop-location : goal.invariant-loop-location
invariant-loop-location l = l.marks.items ≡ map (own_are_quiet (runs_of l.runs) l.names) (numbers_below l.location)
