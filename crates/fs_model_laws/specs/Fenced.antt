-- An execution of a test under a placement of fences, and the execution of the fenced test that has these fences as
-- steps.
use Rattle.std.specs.Prelude.{◌≡◌, ◌↔◌, ℕ, Option, None, Some, List, [], ◌∷◌, ◌++◌, map}
use Rattle.std.specs.List.{enumerate_from, flat_map}
use Rattle.fs_kinds.specs.declared.kind.Kind.{Kind}
use Rattle.fs_kinds.specs.declared.placement.Entry.{Entry}
use Rattle.fs_kinds.specs.Placement.{kind_at}
use Rattle.fs_model.specs.declared.test.Test.{Test}
use Rattle.fs_model.specs.Slots.{slot_at}
use Rattle.fs_model.specs.Fenced.{fence_of, fenced, moved, position}
use Rattle.fs_model.specs.Moved.{place}
use Rattle.fs_model.specs.Test.{IsSame}
use Rattle.fs_model.specs.declared.step.Step.{Step}
use Rattle.fs_model.specs.declared.step.Choice.{Choice}
use Rattle.fs_model.specs.Allows.{Allows, Shows, no_fences}
use Rattle.fs_model.specs.Execution.{Execution, IsExecution}
use Rattle.fs_model.specs.Shows.{has_outcome}
use Rattle.fs_model.specs.Witness.{Chooses}

-- the step of the FENCE that stands before instruction `at` of the hart in the fenced code; it accesses nothing
abbrev pub fence_step : List Entry → (hart at : ℕ) → Kind → Step
fence_step p hart at kind =
    record { at = position p hart at; instr = fence_of kind; address = None; loaded = None; stored = None }

abbrev pub fence_steps : List Entry → (hart at : ℕ) → Option Kind → List Step
fence_steps p hart at None = []
fence_steps p hart at (Some kind) = fence_step p hart at kind ∷ []

-- the same step of the fenced code: at the instruction's place there, a branch going to its label there
abbrev pub moved_step : List Entry → ℕ → Step → Step
moved_step p hart s =
    record { at = place p hart s.at; instr = moved p hart s.instr; address = s.address; loaded = s.loaded; stored = s.stored }

-- the fence at the slot of the step, if any, and the step
abbrev pub with_fence_step : List Entry → ℕ → Step → List Step
with_fence_step p hart s = fence_steps p hart s.at (kind_at (slot_at hart s.at) p) ++ moved_step p hart s ∷ []

-- the run of the fenced code that has the placed fences as steps
abbrev pub fenced_steps : List Entry → ℕ × List Step → List Step
fenced_steps p numbered = flat_map (with_fence_step p numbered.0) numbered.1

abbrev pub fenced_traces : List Entry → List (List Step) → List (List Step)
fenced_traces p traces = map (fenced_steps p) (enumerate_from 0 traces)

-- Memory operations keep their numbers, since a FENCE is none; so the order stays.
abbrev pub fenced_execution : List Entry → Execution → Execution
fenced_execution p e = record { traces = fenced_traces p e.traces; order = e.order }

-- an execution under the placement, with the fences as steps
abbrev pub IsFencedExecution : Test → List Entry → Execution → Type 0
IsFencedExecution t p u = (e : Execution) × IsExecution t p e × (fenced_execution p e ≡ u)

-- one that shows the outcome to rule out
abbrev pub ShowsFenced : Test → List Entry → Execution → Type 0
ShowsFenced t p u = (e : Execution) × Shows t p e × (fenced_execution p e ≡ u)

-- The fenced test, with no fence in its own slots, has these executions and no others.
abbrev pub ExecutesAlike : Test → List Entry → Type 0
ExecutesAlike t p = (u : Execution) → IsExecution (fenced t p) (no_fences (fenced t p)) u ↔ IsFencedExecution t p u

-- an execution and the fenced one show the outcome together
abbrev pub KeepsOutcome : Test → List Entry → Type 0
KeepsOutcome t p = (e : Execution) → has_outcome (fenced t p) (fenced_execution p e) ≡ has_outcome t e

-- what shows it in the fenced test, with no fence in its own slots
abbrev pub ShowsAlike : Test → List Entry → Type 0
ShowsAlike t p = (u : Execution) → Shows (fenced t p) (no_fences (fenced t p)) u ↔ ShowsFenced t p u

-- the fenced test allows the outcome exactly where the test does under the placement
abbrev pub AllowsAlike : Test → List Entry → Type 0
AllowsAlike t p = Allows (fenced t p) (no_fences (fenced t p)) ↔ Allows t p

-- so does each test that is the same as the fenced one, such as the one that is read from it in print
abbrev pub AllowsAsRead : Test → List Entry → Type 0
AllowsAsRead t p = (u : Test) → IsSame u (fenced t p) → Allows u (no_fences u) ↔ Allows t p

-- different executions stay different
abbrev pub KeepsApart : Test → List Entry → Type 0
KeepsApart t p = (e f : Execution) → IsExecution t p e → IsExecution t p f → fenced_execution p e ≡ fenced_execution p f → e ≡ f

-- the choices that make a run make the fenced run
abbrev pub KeepsChoices : Test → List Entry → Type 0
KeepsChoices t p =
    (hart : ℕ) (choices : List Choice) (steps : List Step) → Chooses t hart choices steps
    → Chooses (fenced t p) hart choices (fenced_steps p (hart, steps))
