use Rattle.fs_region_refutation.proofs.ListedRuns.{are_runs}
use Rattle.fs_region_refutation.proofs.run_laws.listed_are_runs.Goals as goal

pub returns : goal.returns
returns c = are_runs
