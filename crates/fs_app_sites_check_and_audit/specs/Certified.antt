-- What `solve --sites` answers with a certificate.
use Rattle.std.specs.Prelude.{Bool, ℕ, List, ◌++◌, false}
use Rattle.fs_app_io.specs.declared.status.Status.{Status}
use Rattle.fs_app_io.specs.declared.status.Status.TheVariants.{Success}
use Rattle.fs_app_solve_and_check.specs.Check.{yes_line}
use Rattle.fs_app_sites.specs.declared.content.Tests.{Tests}
use Rattle.fs_app_sites.specs.Printed.{answer_text}
use Rattle.fs_app_sites.specs.Sites.{names_of}
use Rattle.fs_app_sites.specs.Solved.{IsSolved}
use Rattle.fs_app_sites_check_and_audit.specs.Checked.{IsSitesChecked}

-- `check --sites` accepts these bytes, and prints `yes` and these lines
abbrev pub IsAccepted : Tests → (prices certificate lines : List ℕ) → Type 0
IsAccepted tests prices certificate lines =
    (line : List ℕ) × IsSitesChecked tests prices certificate (yes_line ++ lines) line Success

-- the answer is printed, and `check --sites` accepts these bytes with the lines of that answer
pub record IsCertified (is_json : Bool) (tests : Tests) (prices text : List ℕ) (status : Status)
    (certificate : List ℕ) : Type 0 where
  pub solved : IsSolved is_json tests prices text status
  pub accepted : IsAccepted tests prices certificate (answer_text false tests (names_of solved.contents) solved.found)
