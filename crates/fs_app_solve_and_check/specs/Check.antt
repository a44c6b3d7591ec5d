-- What `check` prints, and the fault that it answers.
use Rattle.std.specs.Prelude.{◌≡◌, ◌⊎◌, ℕ, true, false, List, [], ◌∷◌, ◌++◌, Some, codes}
use Rattle.serde_json.specs.Data.{Data, boolean, object, string}
use Rattle.fs_kinds.specs.declared.fault.Fault.{Fault}
use Rattle.fs_kinds.specs.declared.fault.Fault.TheVariants.{Memory}
use Rattle.fs_kinds.specs.declared.placement.Entry.{Entry}
use Rattle.fs_kinds.specs.declared.reason.Reason.{Reason}
use Rattle.fs_kinds.specs.PriceTable.{PriceTable, cost}
use Rattle.fs_kinds.specs.ReasonText.{reason_text}
use Rattle.fs_model.specs.declared.test.Test.{Test}
use Rattle.fs_litmus.specs.Reads.{Reads}
use Rattle.fs_litmus.specs.Faults.{IsTestFault}
use Rattle.fs_cert_evidence.specs.CandidateFaults.{HasNoCyclesFault}
use Rattle.fs_cert_evidence.specs.Certificate.{Certificate, IsBest}
use Rattle.fs_cert_evidence.specs.CertificateFile.{IsCertificateFile}
use Rattle.fs_cert_evidence.specs.Texts.{fenced_lines, members_of, none_lines}
use Rattle.fs_cert_evidence.specs.Valid.{IsValidForNone}
use Rattle.fs_board_offers.specs.Priced.{IsValidFor, IsRefusal}
use Rattle.fs_check_certificate.specs.Checks.{IsCheckFault}
use Rattle.fs_app_io.specs.declared.status.Status.{Status}
use Rattle.fs_app_io.specs.declared.status.Status.TheVariants.{Success, Denied}
use Rattle.fs_app_place_and_order.specs.Place.{ArePricesOf, IsPricesFault}
use Rattle.fs_report.specs.Objects.{SayOneAnswer, json_line}

abbrev pub yes_line : List ℕ
yes_line = codes "yes\n"

abbrev pub refusal_line : Reason → List ℕ
refusal_line why = codes "no: " ++ reason_text why ++ codes "\n"

-- The certificate is valid for a placement, which is printed with its cost. So this is the best one, as the version has
-- it.
pub record PrintsFences (t : Test) (prices : PriceTable) (c : Certificate) (text : List ℕ) (status : Status) : Type 0 where
  pub placement : List Entry
  pub valid : IsValidFor t prices c placement
  pub best : IsBest c.version t prices placement
  pub shown : text ≡ yes_line ++ fenced_lines (cost prices placement) placement
  pub ends : status ≡ Success

-- it is valid for none, which is printed with its witness
pub record PrintsNone (t : Test) (c : Certificate) (text : List ℕ) (status : Status) : Type 0 where
  pub valid : IsValidForNone t c
  pub shown : text ≡ yes_line ++ none_lines valid.witness
  pub ends : status ≡ Success

-- it isn't valid, and the first reason why not is printed
pub record PrintsRefusal (t : Test) (prices : PriceTable) (c : Certificate) (text : List ℕ) (status : Status) : Type 0 where
  pub why : Reason
  pub refused : IsRefusal t prices c why
  pub shown : text ≡ refusal_line why
  pub ends : status ≡ Denied

abbrev pub PrintsVerdict : Test → PriceTable → Certificate → List ℕ → Status → Type 0
PrintsVerdict t prices c text status =
    PrintsFences t prices c text status ⊎ (PrintsNone t c text status ⊎ PrintsRefusal t prices c text status)

-- ---- the same as JSON

-- a yes to a certificate of this answer
abbrev pub yes_value : Data → Data
yes_value answer = object (members_of ((codes "answer", answer) ∷ (codes "valid", boolean true) ∷ []))

abbrev pub no_value : Reason → Data
no_value why =
    object (members_of ((codes "reason", string (reason_text why)) ∷ (codes "valid", boolean false) ∷ []))

-- the lines of a verdict, and its object in print
abbrev pub AreOneVerdict : (lines text : List ℕ) → Type 0
AreOneVerdict lines text =
    ((below : List ℕ) × (answer : Data) × SayOneAnswer below answer
    × (lines ≡ yes_line ++ below) × (text ≡ json_line (yes_value answer)))
    ⊎ ((why : Reason) × (lines ≡ refusal_line why) × (text ≡ json_line (no_value why)))

-- ---- of files

-- the bytes are a certificate file, whose cycles can be judged, and the verdict on what it says is printed
abbrev pub PrintsFileVerdict : Test → PriceTable → (certificate : List ℕ) → List ℕ → Status → Type 0
PrintsFileVerdict t prices bytes text status =
    (c : Certificate) × IsCertificateFile bytes c × HasNoCyclesFault c.cycles t × PrintsVerdict t prices c text status

-- the bytes read as a test, hold prices and are a certificate file, and the verdict on it is printed
pub record IsChecked (test prices certificate text : List ℕ) (status : Status) : Type 0 where
  pub the_test : Test
  pub table : PriceTable
  pub the_certificate : Certificate
  pub reads : Reads test the_test
  pub priced : ArePricesOf prices table
  pub says : IsCertificateFile certificate the_certificate
  pub listed : HasNoCyclesFault the_certificate.cycles the_test
  pub verdict : PrintsVerdict the_test table the_certificate text status

-- the first fault: of the prices, else of the test, else of the certificate and then of the test's candidates, or of
-- its runs where the certificate has a refutation; want of memory may come in place of any answer
pub data IsFirstCheckFault (test prices certificate : List ℕ) : Fault → Type 0 where
  of_prices : {fault : Fault} → IsPricesFault (Some prices) fault → IsFirstCheckFault test prices certificate fault
  of_test : {fault : Fault} (table : PriceTable) → ArePricesOf prices table → IsTestFault test fault
      → IsFirstCheckFault test prices certificate fault
  of_check : {fault : Fault} (table : PriceTable) (t : Test) → ArePricesOf prices table → Reads test t
      → IsCheckFault t certificate fault → IsFirstCheckFault test prices certificate fault
  of_memory : IsFirstCheckFault test prices certificate Memory
