-- Witnesses: an execution as a file gives it, by the choices of each hart and the names of the operations in their
-- order.
use Rattle.std.specs.Prelude.{◌≡◌, ℕ, ◌<◌, Option, Some, option_map, option_and_then, List, [], map, length, slice_get}
use Rattle.std.specs.List.{slice_index_or}
use Rattle.fs_kinds.specs.declared.reason.OperationName.{OperationName as Name}
use Rattle.fs_model.specs.declared.test.Test.{Test}
use Rattle.fs_model.specs.declared.step.Step.{Step}
use Rattle.fs_model.specs.declared.step.Choice.{Choice}
use Rattle.fs_model.specs.Choices.{IsWhole}
use Rattle.fs_model.specs.Operations.{PreExecution, steps_of, operation, place, trace_of}
use Rattle.fs_model.specs.Execution.{Execution, pre_execution, code_of, registers_of}

-- initial stores aren't named: they come first
pub record Witness : Type 0 where
  pub choices : List (List Choice)
  pub order : List Name

-- the name of what a step does: its hart, and the position of its instruction in the unfenced code
abbrev pub step_name : ℕ → Step → Name
step_name hart s = record { hart = hart; at = s.at }

-- the name of an operation; an initial store has none
abbrev pub name_of : PreExecution → ℕ → Option Name
name_of x a = option_and_then (λ hart. option_map (step_name hart) (slice_get (trace_of x a) (place x a))) (operation x a).hart

-- the hart's choices make these steps
abbrev pub Chooses : Test → ℕ → List Choice → List Step → Type 0
Chooses t hart choices steps = IsWhole (length t.locations) (code_of t hart) (registers_of t hart) choices steps

-- the execution that a witness gives
pub record IsOfWitness (t : Test) (w : Witness) (e : Execution) : Type 0 where
  pub lists : length w.choices ≡ length t.codes
  pub harts : length e.traces ≡ length t.codes
  pub runs : (hart : ℕ) → hart < length t.codes → Chooses t hart (slice_index_or w.choices hart []) (steps_of e.traces hart)
  pub order : map (name_of (pre_execution t e.traces)) e.order ≡ map (λ name. Some name) w.order
