use Rattle.std.proofs.Common.{◌≡◌, drop}
use Rattle.std.specs.List.{list_any}
use Rattle.fs_region_refutation.specs.Views.{runs_of}
use Rattle.fs_region_refutation.specs.inner.Each.{stores_there}
use Rattle.fs_region_refutation.proofs.parted.any_stores_there.Given as goal

abbrev pub invariant-loop-run : goal.invariant-loop-run
invariant-loop-run l =
    list_any (stores_there l.names l.location) (runs_of l.runs) ≡ list_any (stores_there l.names l.location) (runs_of (drop l.run-index l.runs))
