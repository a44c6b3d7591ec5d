-- Executions that are told.
use Rattle.std.specs.Prelude.{◌≡◌, ℕ, List, ◌++◌}
use Rattle.fs_kinds.specs.declared.placement.Entry.{Entry}
use Rattle.fs_model.specs.declared.test.Test.{Test}
use Rattle.fs_model.specs.Execution.{Execution}
use Rattle.fs_model.specs.Witness.{Witness}
use Rattle.fs_app_why.specs.Reordered.{IsToldOf}
use Rattle.fs_app_why.specs.Traces.{trace_text}

-- the text is this heading, and below it an execution of the witness, which shows the outcome with these fences
pub record TellsExecution (t : Test) (p : List Entry) (lines : List (List ℕ)) (heading : List ℕ) (w : Witness) (text : List ℕ) : Type 0 where
  pub execution : Execution
  pub is_of : IsToldOf t p w execution
  pub told : text ≡ heading ++ trace_text t lines execution
