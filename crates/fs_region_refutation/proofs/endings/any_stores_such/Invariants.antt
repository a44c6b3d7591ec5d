use Rattle.std.proofs.Common.{◌≡◌, drop}
use Rattle.std.specs.List.{list_any}
use Rattle.fs_cert_evidence.specs.Musts.{stores_such}
use Rattle.fs_region_refutation.specs.Views.{runs_of}
use Rattle.fs_region_refutation.specs.inner.Each.{is_ending}
use Rattle.fs_region_refutation.proofs.endings.any_stores_such.Given as goal

abbrev pub invariant-loop-run : goal.invariant-loop-run
invariant-loop-run l =
    list_any (stores_such l.location (is_ending l.ending) l.name) (runs_of l.runs) ≡ list_any (stores_such l.location (is_ending l.ending) l.name) (runs_of (drop l.run-index l.runs))
