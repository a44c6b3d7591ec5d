-- Whole runs of a test's harts, given by their steps.
use Rattle.std.specs.Prelude.{◌≡◌, ℕ, ◌<◌, Option, None, Some, List, length}
use Rattle.fs_model.specs.declared.test.Test.{Test}
use Rattle.fs_model.specs.declared.step.Step.{Step}
use Rattle.fs_model.specs.Operations.{PreExecution, steps_of}
use Rattle.fs_model.specs.Execution.{IsTrace, pre_execution}
use Rattle.fs_hart.specs.declared.trace.Trace.{Trace}
use Rattle.fs_hart.specs.Steps.{steps_in}
use Rattle.fs_hart.specs.Runs.{registers_after}

-- what these runs of the test's harts are before any order
abbrev pub pre_execution_of : Test → List Trace → PreExecution
pre_execution_of t traces = pre_execution t (steps_in traces)

-- the steps are runs of the test's harts, one for each
abbrev pub AreRuns : Test → List (List Step) → Type 0
AreRuns t runs = (length runs ≡ length t.codes) × ((hart : ℕ) → hart < length t.codes → IsTrace t hart (steps_of runs hart))

-- the registers at the end of the steps, where they are a run of the hart
abbrev pub EndsWith : Test → ℕ → List Step → Option (List ℕ) → Type 0
EndsWith t hart steps (Some registers) = IsTrace t hart steps × (registers ≡ registers_after t hart steps)
EndsWith t hart steps None = IsTrace t hart steps → ⊥

-- the run of these steps, where they are one of the hart
abbrev pub IsWholeRun : Test → ℕ → List Step → Option Trace → Type 0
IsWholeRun t hart steps (Some trace) =
    (trace.steps ≡ steps) × IsTrace t hart steps × (trace.registers ≡ registers_after t hart steps)
IsWholeRun t hart steps None = IsTrace t hart steps → ⊥
