-- A yes in both forms.
use Rattle.std.specs.Prelude.{◌≡◌, ℕ, List, ◌++◌}
use Rattle.serde_json.specs.Data.{Data}
use Rattle.fs_app_io.specs.declared.status.Status.{Status}
use Rattle.fs_app_io.specs.declared.status.Status.TheVariants.{Success}
use Rattle.fs_report.specs.Objects.{SayOneAnswer, json_line}
use Rattle.fs_app_solve_and_check.specs.Check.{yes_line, yes_value}

-- a yes to the answer in these lines
pub record IsYesTo (below text : List ℕ) (status : Status) (object : List ℕ) : Type 0 where
  pub shown : text ≡ yes_line ++ below
  pub ends : status ≡ Success
  pub answer : Data
  pub same : SayOneAnswer below answer
  pub printed : object ≡ json_line (yes_value answer)
