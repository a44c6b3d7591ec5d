use Rattle.std.proofs.Common.{◌≡◌, drop}
use Rattle.std.specs.List.{list_any}
use Rattle.fs_cert_evidence.specs.Regions.{stored_at}
use Rattle.fs_region_refutation.specs.Views.{accesses_at, runs_of}
use Rattle.fs_region_refutation.proofs.parted.any_stores.Given as goal

abbrev pub invariant-loop-run : goal.invariant-loop-run
invariant-loop-run l =
    list_any (accesses_at stored_at l.name.at l.location) (runs_of l.runs) ≡ list_any (accesses_at stored_at l.name.at l.location) (runs_of (drop l.run-index l.runs))
