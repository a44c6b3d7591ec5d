-- Operations by their names: the hart and the position of the instruction.
use Rattle.std.specs.Prelude.{ℕ, ◌==◌, Bool, false, ◌&&◌, Option, None, Some, option_map, option_and_then, List, [], ◌∷◌, slice_get, position}
use Rattle.fs_kinds.specs.declared.reason.OperationName.{OperationName as Name}
use Rattle.fs_model.specs.declared.operation.Operation.{Operation}
use Rattle.fs_model.specs.declared.step.Step.{Step}
use Rattle.fs_model.specs.Operations.{steps_of}
use Rattle.fs_model.specs.Witness.{step_name}

-- the name of the operation, in these runs
abbrev pub name_in : List (List Step) → Operation → Option Name
name_in traces o = option_and_then (λ hart. option_map (step_name hart) (slice_get (steps_of traces hart) o.place)) o.hart

abbrev pub is_same_name : Option Name → Option Name → Bool
is_same_name (Some a) (Some b) = (a.hart == b.hart) && (a.at == b.at)
is_same_name (Some a) None = false
is_same_name None b = false

-- the least number with this name
abbrev pub number_of : List (Option Name) → Option Name → Option ℕ
number_of names wanted = position (λ name. is_same_name name wanted) names

-- the numbers with these names, where all are there
abbrev pub numbers_of : List (Option Name) → List (Option Name) → Option (List ℕ)
numbers_of names [] = Some []
numbers_of names (name ∷ rest) = option_and_then (λ a. option_map (λ order. a ∷ order) (numbers_of names rest)) (number_of names name)
