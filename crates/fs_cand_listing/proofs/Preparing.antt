-- The runs of each number can be prepared.
use Rattle.std.proofs.Common.{ℕ, ◌<◌, List, map, refl}
use Rattle.fs_model.specs.declared.test.Test.{Test}
use Rattle.fs_model.specs.Test.{IsBounded}
use Rattle.fs_model.specs.Operations.{operations}
use Rattle.fs_model.specs.Execution.{pre_execution}
use Rattle.fs_hart.specs.declared.trace.Trace.{Trace}
use Rattle.fs_hart.specs.Steps.{steps_in}
use Rattle.fs_values.specs.AllRuns.{HaveFinal}
use Rattle.fs_cand_listing.specs.Ways.{product_of_lengths}
use Rattle.fs_cand_listing.specs.RawCandidates.{AreAllRuns}
use Rattle.fs_cand_listing.specs.inner.Places.{runs_at, CanBePrepared}
use Rattle.fs_cand_listing.proofs.Totals.{few_harts, short_runs, fewer_here}
use Rattle.fs_cand_listing.proofs.Finals.{runs_final}

pub can_be_prepared : (t : Test) (lists : List (List Trace)) → IsBounded t → AreAllRuns t (map steps_in lists) → HaveFinal t lists
    → (n : ℕ) → n < product_of_lengths lists → CanBePrepared t (runs_at lists n)
can_be_prepared t lists bounded all final n low = record {
  final = runs_final t lists bounded all final n low;
  harts = few_harts t lists bounded all n low;
  short = short_runs t lists bounded all n low;
  few = fewer_here t lists bounded all n low (operations (pre_execution t (steps_in (runs_at lists n)))) refl;
}
