-- What a yes of `check` means, and that the certificate of `solve --cert` gets one.
use Rattle.std.specs.Prelude.{◌≡◌, ◌⊎◌, ◌<◌, ◌++◌, ℕ, List}
use Rattle.fs_kinds.specs.declared.placement.Entry.{Entry}
use Rattle.fs_kinds.specs.PriceTable.{PriceTable, cost}
use Rattle.fs_model.specs.declared.test.Test.{Test}
use Rattle.fs_litmus.specs.Reads.{Reads}
use Rattle.fs_model.specs.Allows.{IsPlacement}
use Rattle.fs_cert_evidence.specs.Certificate.{Certificate, Version, First, Second, Fourth}
use Rattle.fs_cert_evidence.specs.CertificateFile.{IsCertificateFile}
use Rattle.fs_cert_evidence.specs.Texts.{fenced_lines}
use Rattle.fs_app_io.specs.declared.status.Status.{Status}
use Rattle.fs_app_io.specs.declared.status.Status.TheVariants.{Success}
use Rattle.fs_cert_evidence.specs.CandidateFaults.{HasNoCyclesFault}
use Rattle.fs_app_place_and_order.specs.Place.{ArePricesOf}
use Rattle.fs_app_solve_and_check.specs.Check.{yes_line}
use Rattle.fs_app_guarantees.specs.Headline.{AreRead, StaysPossible, IsRuledOut, CheapestRulesOut, NothingRulesOut}

-- a placement and its cost are printed; it rules the outcome out, and none that costs less does
pub record LeastRulesOut (t : Test) (prices : PriceTable) (text : List ℕ) : Type 0 where
  pub placement : List Entry
  pub shown : text ≡ fenced_lines (cost prices placement) placement
  pub placed : IsPlacement t prices placement
  pub ruled_out : IsRuledOut t placement
  pub cheaper : (q : List Entry) → IsPlacement t prices q → cost prices q < cost prices placement → StaysPossible t q

-- in the first version of certificates ties are left open
abbrev pub IsBestAnswer : Version → Test → PriceTable → (text : List ℕ) → Type 0
IsBestAnswer First = LeastRulesOut
IsBestAnswer Second = CheapestRulesOut
IsBestAnswer Fourth = CheapestRulesOut

-- A line `yes` is printed, and below it what is true of the test and the prices. And the test's candidates can be
-- listed, or its runs where the certificate has a refutation.
abbrev pub IsTrueAnswerBelow : Certificate → Test → PriceTable → (text : List ℕ) → Type 0
IsTrueAnswerBelow c t prices text =
    HasNoCyclesFault c.cycles t
    × ((below : List ℕ) × (text ≡ yes_line ++ below) × (IsBestAnswer c.version t prices below ⊎ NothingRulesOut t below))

-- the bytes read as a test, prices and a certificate, and the yes is true of all that they read as
abbrev pub IsTrueYes : (test prices certificate text : List ℕ) → Type 0
IsTrueYes test prices certificate text =
    AreRead test prices × ((c : Certificate) × IsCertificateFile certificate c)
    × ((t : Test) (table : PriceTable) (c : Certificate) → Reads test t → ArePricesOf prices table → IsCertificateFile certificate c
    → IsTrueAnswerBelow c t table text)

-- `check` prints a line `yes` and below it the same lines, and ends with success
abbrev pub IsYesTo : (text verdict : List ℕ) → (end : Status) → Type 0
IsYesTo text verdict end = (end ≡ Success) × (verdict ≡ yes_line ++ text)
