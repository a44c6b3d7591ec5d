-- The object of a fault that ended a run.
use Rattle.std.specs.Prelude.{◌≡◌, ℕ, List, [], ◌∷◌, false, string_bytes}
use Rattle.fs_kinds.specs.declared.fault.Fault.{Fault}
use Rattle.fs_app_test.specs.declared.said.Line.{Line}
use Rattle.fs_app_test.specs.SaidVerdicts.{witness_in}
use Rattle.fs_app_test.specs.Report.{json_text}
use Rattle.fs_app_test.specs.Verdicts.{NamesFault}

-- the object of a fault, in a line
pub record IsFaultObject (fault : Fault) (text : List ℕ) : Type 0 where
  pub line : Line
  pub names : NamesFault fault line.said.kind (string_bytes line.said.why) (witness_in line.said.witness)
  pub shown : text ≡ json_text false (line ∷ [])
