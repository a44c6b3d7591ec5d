-- What the choices of a witness make of the harts.
use Rattle.std.specs.Prelude.{◌≡◌, ℕ, Option, None, Some, List, [], length, slice_get}
use Rattle.std.specs.List.{slice_index_or}
use Rattle.fs_kinds.specs.declared.placement.Entry.{Entry}
use Rattle.fs_kinds.specs.declared.reason.OperationName.{OperationName as Name}
use Rattle.fs_kinds.specs.declared.reason.Reason.{Reason}
use Rattle.fs_kinds.specs.declared.reason.Reason.TheVariants as reason
use Rattle.fs_model.specs.declared.test.Test.{Test}
use Rattle.fs_model.specs.declared.step.Choice.{Choice}
use Rattle.fs_model.specs.Reasons.{IsReason}
use Rattle.fs_hart.specs.declared.trace.Trace.{Trace}
use Rattle.fs_hart.specs.declared.trace.Run.{Run}
use Rattle.fs_hart.specs.declared.trace.Run.TheVariants as run
use Rattle.fs_hart.specs.Runs.{IsRunOf}
use Rattle.fs_check.specs.declared.runs.Runs.{Runs}
use Rattle.fs_check.specs.declared.runs.Runs.TheVariants.{Whole, Stopped}

-- each hart's choices make its run, for the harts of these runs
abbrev pub AreWholeRuns : Test → List (List Choice) → List Trace → Type 0
AreWholeRuns t choices traces = (hart : ℕ) (trace : Trace) → slice_get traces hart ≡ Some trace → IsRunOf t hart (slice_index_or choices hart []) (run.Whole trace)

-- the reason against choices that make this of the hart
abbrev pub reason_of : ℕ → Run → Option Reason
reason_of hart (run.Whole trace) = None
reason_of hart (run.Astray at) = Some (reason.Astray hart at)
reason_of hart _ = Some (reason.Choices hart)

-- what choices make of the harts: their runs, or the reason against every witness with these choices
abbrev pub AreRunsOf : Test → List (List Choice) → Runs → Type 0
AreRunsOf t choices (Whole traces) = (length traces ≡ length t.codes) × AreWholeRuns t choices traces
AreRunsOf t choices (Stopped reason) = (p : List Entry) (order : List Name) → IsReason t p (record { choices = choices; order = order }) reason
