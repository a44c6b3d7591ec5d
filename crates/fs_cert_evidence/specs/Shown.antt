-- What a witness shows.
use Rattle.std.specs.Prelude.{List}
use Rattle.fs_kinds.specs.declared.placement.Entry.{Entry}
use Rattle.fs_model.specs.declared.test.Test.{Test}
use Rattle.fs_model.specs.Execution.{Execution}
use Rattle.fs_model.specs.Witness.{Witness, IsOfWitness}
use Rattle.fs_model.specs.Allows.{Shows}

-- the witness gives this execution, which shows the outcome with these fences
abbrev pub ShowsAs : Test → List Entry → Witness → Execution → Type 0
ShowsAs t p witness e = IsOfWitness t witness e × Shows t p e

-- the witness gives an execution that does so
abbrev pub IsShownBy : Test → List Entry → Witness → Type 0
IsShownBy t p witness = (e : Execution) × ShowsAs t p witness e
