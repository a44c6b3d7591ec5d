-- The names of a candidate's operations, as its code holds them.
use Rattle.std.specs.Prelude.{ℕ, Option, option_map, option_and_then, unwrap_or, List, [], slice_get}
use Rattle.std.specs.List.{slice_index_or}
use Rattle.fs_kinds.specs.declared.reason.OperationName.{OperationName as Name}
use Rattle.fs_model.specs.declared.operation.Operation.{Operation}
use Rattle.fs_model.specs.declared.step.Step.{Step}
use Rattle.fs_model.specs.Operations.{nothing, steps_of}
use Rattle.fs_model.specs.Witness.{step_name}
use Rattle.fs_hart.specs.Steps.{steps_in}
use Rattle.fs_cand.specs.declared.candidate.Candidate.{Candidate}

-- the name of an operation in these runs; an initial store has none
abbrev pub name_in : List (List Step) → Operation → Option Name
name_in traces o =
    option_and_then (λ hart. option_map (step_name hart) (slice_get (unwrap_or (option_map (steps_of traces) o.hart) []) o.place)) o.hart

-- the name of the operation of this number
abbrev pub name_at : Candidate → ℕ → Option Name
name_at c a = name_in (steps_in c.traces) (slice_index_or c.operations a nothing)
