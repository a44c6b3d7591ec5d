-- What is told of an execution.
use Rattle.std.specs.Prelude.{ℕ, Option, None, List, length, map}
use Rattle.std.specs.List.{slice_index_or}
use Rattle.fs_kinds.specs.declared.reason.OperationName.{OperationName as Name}
use Rattle.fs_model.specs.declared.operation.Operation.{Operation}
use Rattle.fs_model.specs.Numbers.{numbers_below}
use Rattle.fs_model.specs.Operations.{PreExecution, nothing, operations}
use Rattle.fs_model.specs.Source.{source_in}
use Rattle.fs_model.specs.Witness.{name_of}
use Rattle.fs_app_why.specs.declared.told_execution.Told.{Told}

-- its operations, and of each the name and the source, by their numbers; and the order of the harts' own
abbrev pub told_of : PreExecution → List ℕ → Told
told_of x order = record {
  operations = operations x;
  names = map (name_of x) (numbers_below (length (operations x)));
  sources = map (source_in x order) (numbers_below (length (operations x)));
  order = order;
}

abbrev pub operation_at : Told → ℕ → Operation
operation_at told a = slice_index_or told.operations a nothing

abbrev pub name_at : Told → ℕ → Option Name
name_at told a = slice_index_or told.names a None

abbrev pub source_at : Told → ℕ → Option ℕ
source_at told a = slice_index_or told.sources a None
