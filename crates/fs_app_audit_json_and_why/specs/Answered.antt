-- What `audit` prints of a file as JSON.
use Rattle.std.specs.Prelude.{◌≡◌, ℕ, Bool, true, false, List}
use Rattle.serde_json.specs.Data.{Data}
use Rattle.fs_report.specs.Objects.{json_line}
use Rattle.fs_app_io.specs.declared.status.Status.{Status}
use Rattle.fs_app_test.specs.declared.said.Kind.{Kind}
use Rattle.fs_app_audit.specs.Audit.{IsAnew, IsAudited, of_allowed, of_forbidden, of_vacuous}
use Rattle.fs_app_audit.specs.InPlace.{offers_in_place, written_cost}
use Rattle.fs_app_audit_json_and_why.specs.Objects.{anew_value, in_place_value, vacuous_value}

-- the object of what is printed in lines, of the same findings
module _ {test prices text : List ℕ} {status : Status} {said : Kind} {saved : ℕ} where
  abbrev pub object_of : (name : List ℕ) → IsAudited test prices text status said saved → Data
  object_of name (of_forbidden in_place is less) = in_place_value name in_place.findings in_place.advised
  object_of name (of_vacuous found is none) =
      vacuous_value name found.why (written_cost (offers_in_place found.table found.own.codes))
  object_of name (of_allowed anew allowed is none) = anew_value name anew.findings

-- Instead of some lines that `audit` may print of these bytes their object is printed, in a line.
pub record IsObjectAudit (name test prices text : List ℕ) (status : Status) (said : Kind) (saved : ℕ) : Type 0 where
  pub lines : List ℕ
  pub audit : IsAudited test prices lines status said saved
  pub shown : text ≡ json_line (object_of name audit)

-- the same with `--anew`
pub record IsObjectAnew (name test prices text : List ℕ) (status : Status) (said : Kind) : Type 0 where
  pub lines : List ℕ
  pub anew : IsAnew test prices lines status
  pub kind : said ≡ anew.findings.kind
  pub shown : text ≡ json_line (anew_value name anew.findings)

abbrev pub IsObjectBy : (is_anew : Bool) (name test prices text : List ℕ) → Status → (said : Kind) (saved : ℕ) → Type 0
IsObjectBy true name test prices text status said saved = IsObjectAnew name test prices text status said × (saved ≡ 0)
IsObjectBy false name test prices text status said saved = IsObjectAudit name test prices text status said saved
