-- What `check --sites` prints, and the fault that it answers.
use Rattle.std.specs.Prelude.{◌≡◌, ℕ, List, [], ◌∷◌, ◌++◌, codes, false}
use Rattle.std.specs.Fmt.{decimal}
use Rattle.serde_json.specs.Data.{Data, boolean, object, string}
use Rattle.fs_kinds.specs.declared.fault.Fault.{Fault}
use Rattle.fs_kinds.specs.declared.fault.Fault.TheVariants.{BadCertificate, Memory}
use Rattle.fs_cert_evidence.specs.Texts.{members_of}
use Rattle.fs_report.specs.Objects.{json_line}
use Rattle.fs_app_io.specs.declared.status.Status.{Status}
use Rattle.fs_app_io.specs.declared.status.Status.TheVariants.{Success, Denied}
use Rattle.fs_app_solve_and_check.specs.Check.{yes_line, yes_value}
use Rattle.fs_sites.specs.Answers.{IsSolveFault}
use Rattle.fs_sites.specs.Questions.{Question}
use Rattle.fs_sites.specs.declared.answer.Answer.{Answer}
use Rattle.fs_sites_check.specs.Verdicts.{IsSitesVerdict}
use Rattle.fs_sites_check.specs.declared.certificate.SitesCertificate.{SitesCertificate}
use Rattle.fs_sites_check.specs.declared.verdict.SitesReason.{SitesReason}
use Rattle.fs_sites_check.specs.declared.verdict.SitesReason.TheVariants as reason
use Rattle.fs_sites_check.specs.declared.verdict.SitesVerdict.{SitesVerdict}
use Rattle.fs_sites_check.specs.declared.verdict.SitesVerdict.TheVariants.{Yes, No}
use Rattle.fs_app_sites.specs.declared.content.Tests.{Tests}
use Rattle.fs_app_sites.specs.Asked.{IsAsked, IsFirstAskedFault}
use Rattle.fs_app_sites.specs.Printed.{answer_text, value_of}
use Rattle.fs_app_sites_check_and_audit.specs.Kept.{KeepsSaid}
use Rattle.fs_app_sites_check_and_audit.specs.SitesFile.{IsSitesFile, Said}

-- ---- in print

abbrev pub reason_words : SitesReason → List ℕ
reason_words reason.Answer = codes "answer"
reason_words (reason.Cycles test) = codes "cycles " ++ decimal test
reason_words (reason.Witness index) = codes "witness " ++ decimal index

abbrev pub no_line : SitesReason → List ℕ
no_line why = codes "no: " ++ reason_words why ++ codes "\n"

abbrev pub no_value : SitesReason → Data
no_value why =
    object (members_of ((codes "reason", string (reason_words why)) ∷ (codes "valid", boolean false) ∷ []))

-- `yes`, and below it the answer as `solve --sites` prints it; and its object in a line
pub record PrintsYes (tests : Tests) (names : List (List ℕ)) (found : Answer) (text line : List ℕ)
    (status : Status) : Type 0 where
  pub shown : text ≡ yes_line ++ answer_text false tests names found
  pub told : line ≡ json_line (yes_value (value_of tests names found))
  pub ends : status ≡ Success

-- `no: ` with the reason; and its object in a line
pub record PrintsNo (why : SitesReason) (text line : List ℕ) (status : Status) : Type 0 where
  pub shown : text ≡ no_line why
  pub told : line ≡ json_line (no_value why)
  pub ends : status ≡ Denied

abbrev pub PrintsVerdict : Tests → List (List ℕ) → SitesVerdict → (text line : List ℕ) → Status → Type 0
PrintsVerdict tests names (Yes found) text line status = PrintsYes tests names found text line status
PrintsVerdict tests names (No why) text line status = PrintsNo why text line status

-- ---- of files

-- Files and prices ask a question, the bytes are a certificate file, and the verdict on what is kept of it is printed.
-- Where that is yes, the certificate is valid, and so the answer that is printed is right.
pub record IsSitesChecked (tests : Tests) (prices certificate text line : List ℕ) (status : Status) : Type 0 where
  pub question : Question
  pub names : List (List ℕ)
  pub asked : IsAsked tests prices question names
  pub said : Said
  pub says : IsSitesFile certificate said
  pub kept : SitesCertificate
  pub keeps : KeepsSaid kept said
  pub verdict : SitesVerdict
  pub right : IsSitesVerdict question names kept verdict
  pub printed : PrintsVerdict tests names verdict text line status

-- the first fault: of the question, else of the certificate, else of judging it; want of memory may come in place of
-- any answer
pub data IsFirstSitesCheckFault (tests : Tests) (prices certificate : List ℕ) : Fault → Type 0 where
  of_question : {fault : Fault} → IsFirstAskedFault tests prices fault
      → IsFirstSitesCheckFault tests prices certificate fault
  of_certificate : (q : Question) (names : List (List ℕ)) → IsAsked tests prices q names
      → ((said : Said) → ¬ IsSitesFile certificate said)
      → IsFirstSitesCheckFault tests prices certificate BadCertificate
  of_judge : {fault : Fault} (q : Question) (names : List (List ℕ)) (said : Said) → IsAsked tests prices q names
      → IsSitesFile certificate said → IsSolveFault q.parts fault
      → IsFirstSitesCheckFault tests prices certificate fault
  of_memory : IsFirstSitesCheckFault tests prices certificate Memory
