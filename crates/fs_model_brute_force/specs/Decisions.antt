-- What a yes or no decides.
use Rattle.std.specs.Prelude.{◌≡◌, Bool, true, false, List}
use Rattle.fs_kinds.specs.declared.placement.Entry.{Entry}
use Rattle.fs_model.specs.declared.test.Test.{Test}
use Rattle.fs_model.specs.Execution.{Execution, IsExecution}
use Rattle.fs_model.specs.Shows.{has_outcome}

-- the answer is yes where P is so, and no where it isn't
abbrev pub Decides : Bool → Type 0 → Type 0
Decides true P = P
Decides false P = P → ⊥

-- an execution of the test with these fences that shows the outcome
abbrev pub ShowsOutcome : Test → List Entry → Execution → Type 0
ShowsOutcome t p e = IsExecution t p e × (has_outcome t e ≡ true)
