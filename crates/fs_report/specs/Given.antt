-- The witness of two lists.
use Rattle.std.specs.Prelude.{List}
use Rattle.fs_kinds.specs.declared.reason.OperationName.{OperationName as Name}
use Rattle.fs_model.specs.declared.step.Choice.{Choice}
use Rattle.fs_model.specs.Witness.{Witness}

-- with these choices of each hart, and this order
abbrev pub given : List (List Choice) → List Name → Witness
given choices order = record { choices = choices; order = order }
