-- What a kept witness says, where each of its names is there.
use Rattle.std.specs.Prelude.{Option, None, Some, List, [], ◌∷◌}
use Rattle.std.specs.List.{flat_map}
use Rattle.fs_kinds.specs.declared.reason.OperationName.{OperationName as Name}
use Rattle.fs_model.specs.Witness.{Witness}
use Rattle.fs_cert_evidence.specs.declared.witness.WitnessFile.{WitnessFile}

abbrev pub named : Option Name → List Name
named None = []
named (Some name) = name ∷ []

abbrev pub given_by : WitnessFile → Witness
given_by file = record { choices = file.choices; order = flat_map named file.order }
