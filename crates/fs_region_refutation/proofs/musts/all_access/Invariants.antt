use Rattle.std.proofs.Common.{◌≡◌, drop}
use Rattle.std.specs.List.{list_all}
use Rattle.fs_region_refutation.specs.Views.{access_of, accesses_at, runs_of}
use Rattle.fs_region_refutation.proofs.musts.all_access.Given as goal

abbrev pub invariant-loop-run : goal.invariant-loop-run
invariant-loop-run l =
    list_all (accesses_at (access_of l.access) l.at l.location) (runs_of l.runs) ≡ list_all (accesses_at (access_of l.access) l.at l.location) (runs_of (drop l.run-index l.runs))
