-- What choices make of a hart of a test.
use Rattle.std.specs.Prelude.{◌≡◌, ℕ, List, length}
use Rattle.fs_model.specs.declared.test.Test.{Test}
use Rattle.fs_model.specs.declared.step.Choice.{Choice}
use Rattle.fs_model.specs.declared.step.Step.{Step}
use Rattle.fs_model.specs.declared.step.Stop.{Stop}
use Rattle.fs_model.specs.declared.step.Stop.TheVariants as stop
use Rattle.fs_model.specs.Trace.{start_with, hart_after}
use Rattle.fs_model.specs.Choices.{IsStopped}
use Rattle.fs_model.specs.Execution.{code_of, registers_of}
use Rattle.fs_model.specs.Witness.{Chooses}
use Rattle.fs_hart.specs.declared.trace.Run.{Run}
use Rattle.fs_hart.specs.declared.trace.Run.TheVariants as run

-- the registers of the hart after these steps
abbrev pub registers_after : Test → ℕ → List Step → List ℕ
registers_after t hart steps = (hart_after (start_with (registers_of t hart)) steps).registers

-- the choices make some steps of the hart, and then the run stops
abbrev pub Stops : Test → ℕ → List Choice → Stop → Type 0
Stops t hart choices stop =
    (steps : List Step) × IsStopped (length t.locations) (code_of t hart) (registers_of t hart) choices steps stop

-- what the choices make of the hart: the whole run with the registers at its end, or how it stops
abbrev pub IsRunOf : Test → ℕ → List Choice → Run → Type 0
IsRunOf t hart choices (run.Whole trace) =
    Chooses t hart choices trace.steps × (trace.registers ≡ registers_after t hart trace.steps)
IsRunOf t hart choices run.Short = Stops t hart choices stop.Short
IsRunOf t hart choices run.Long = Stops t hart choices stop.Long
IsRunOf t hart choices run.BadChoice = Stops t hart choices stop.BadChoice
IsRunOf t hart choices run.BadSc = Stops t hart choices stop.BadSc
IsRunOf t hart choices (run.Astray at) = Stops t hart choices (stop.Astray at)

-- the run that stops so
abbrev pub run_of : Stop → Run
run_of stop.Short = run.Short
run_of stop.Long = run.Long
run_of stop.BadChoice = run.BadChoice
run_of stop.BadSc = run.BadSc
run_of (stop.Astray at) = run.Astray at
