-- What `solve` prints, and the fault that it answers.
use Rattle.std.specs.Prelude.{◌≡◌, ◌⊎◌, ℕ, Option, None, Some, List, [], ◌∷◌, All, length}
use Rattle.fs_kinds.specs.declared.fault.Fault.{Fault}
use Rattle.fs_kinds.specs.declared.fault.Fault.TheVariants.{Memory}
use Rattle.fs_kinds.specs.declared.placement.Entry.{Entry}
use Rattle.fs_kinds.specs.PriceTable.{PriceTable, cost}
use Rattle.fs_model.specs.declared.test.Test.{Test}
use Rattle.fs_litmus.specs.Reads.{Reads}
use Rattle.fs_litmus.specs.Faults.{IsTestFault}
use Rattle.fs_model.specs.Execution.{Execution}
use Rattle.fs_model.specs.Allows.{IsCheapest, RefutesAll}
use Rattle.fs_model.specs.Witness.{Witness, IsOfWitness}
use Rattle.fs_cert_evidence.specs.CandidateFaults.{HasNoCyclesFault}
use Rattle.fs_cert_evidence.specs.Certificate as said
use Rattle.fs_cert_evidence.specs.CertificateFile.{IsCertificateFile}
use Rattle.fs_cert_evidence.specs.Texts.{certificate_text, fenced_lines, none_lines, witness_text}
use Rattle.fs_board_offers.specs.Priced.{IsValid}
use Rattle.fs_cert_evidence.specs.WitnessFile.{IsWitnessFile}
use Rattle.fs_cert_evidence.specs.Sizes.{HasNoRunFault, IsUnanswered}
use Rattle.fs_cert.specs.Cycles.{BeginsAtLeast, version_for}
use Rattle.fs_app_io.specs.declared.status.Status.{Status}
use Rattle.fs_app_io.specs.declared.status.Status.TheVariants.{Success, Denied}
use Rattle.fs_app_place_and_order.specs.Place.{ArePricesOf, IsPricesFault}

-- the first of the cheapest placements that rule the outcome out, in print with its cost
pub record PrintsCheapest (t : Test) (prices : PriceTable) (text : List ℕ) (status : Status) : Type 0 where
  pub placement : List Entry
  pub cheapest : IsCheapest t prices placement
  pub shown : text ≡ fenced_lines (cost prices placement) placement
  pub ends : status ≡ Success

-- `none`, and as a witness file an execution that shows the outcome with rw,rw in every slot
pub record PrintsNone (t : Test) (text : List ℕ) (status : Status) : Type 0 where
  pub witness : Witness
  pub execution : Execution
  pub given : IsOfWitness t witness execution
  pub refutes : RefutesAll t execution
  pub says : IsWitnessFile (length t.codes) (witness_text witness) witness
  pub shown : text ≡ none_lines witness
  pub ends : status ≡ Denied

abbrev pub PrintsAnswer : Test → PriceTable → List ℕ → Status → Type 0
PrintsAnswer t prices text status = PrintsCheapest t prices text status ⊎ PrintsNone t text status

-- the bytes read as a test and hold prices, and the answer to these is printed
pub record IsSolved (test prices text : List ℕ) (status : Status) : Type 0 where
  pub the_test : Test
  pub table : PriceTable
  pub reads : Reads test the_test
  pub priced : ArePricesOf prices table
  pub listed : HasNoRunFault the_test
  pub answer : PrintsAnswer the_test table text status

-- the first of the cheapest placements, which is this one, or `none` as above
abbrev pub PrintsPlaced : Test → PriceTable → Option (List Entry) → List ℕ → Status → Type 0
PrintsPlaced t prices (Some p) text status = IsCheapest t prices p × (text ≡ fenced_lines (cost prices p) p) × (status ≡ Success)
PrintsPlaced t prices None text status = PrintsNone t text status

-- The bytes are a certificate file, as it is written, which is valid with this placement as its answer, or with none,
-- and no fault is in the way of judging that. It is of the second version where it lists cycles, each of which begins
-- at its least operation, and else of the fourth.
pub record IsCertificateOf (t : Test) (prices : PriceTable) (answer : Option (List Entry)) (bytes : List ℕ) : Type 0 where
  pub certificate : said.Certificate
  pub file : IsCertificateFile bytes certificate
  pub written : bytes ≡ certificate_text certificate
  pub version : certificate.version ≡ version_for certificate.cycles
  pub valid : IsValid t prices certificate answer
  pub judged : HasNoCyclesFault certificate.cycles t
  pub least : All BeginsAtLeast (said.listed_in certificate.cycles)

-- where there is no placement, the one of these witnesses is printed
abbrev pub IsWitnessed : Option (List Entry) → List Witness → List ℕ → Type 0
IsWitnessed (Some p) witnesses text = Unit {0}
IsWitnessed None witnesses text = (w : Witness) × (witnesses ≡ w ∷ []) × (text ≡ none_lines w)

-- as `IsSolved`, and the certificate is one of the answer that is printed: of the placement, or of `none` by the same
-- witness
pub record IsCertified (test prices text : List ℕ) (status : Status) (certificate : List ℕ) : Type 0 where
  pub the_test : Test
  pub table : PriceTable
  pub reads : Reads test the_test
  pub priced : ArePricesOf prices table
  pub listed : HasNoRunFault the_test
  pub placed : Option (List Entry)
  pub answer : PrintsPlaced the_test table placed text status
  pub certified : IsCertificateOf the_test table placed certificate
  pub witnessed : IsWitnessed placed certified.certificate.witnesses text

-- the first fault: of the prices, else of the test, else of its candidates and then of the search; want of memory may
-- come in place of any answer
pub data IsFirstSolveFault (test prices : List ℕ) (limit : ℕ) : Fault → Type 0 where
  of_prices : {fault : Fault} → IsPricesFault (Some prices) fault → IsFirstSolveFault test prices limit fault
  of_test : {fault : Fault} (table : PriceTable) → ArePricesOf prices table → IsTestFault test fault
      → IsFirstSolveFault test prices limit fault
  of_search : {fault : Fault} (table : PriceTable) (t : Test) → ArePricesOf prices table → Reads test t
      → IsUnanswered t table limit fault → IsFirstSolveFault test prices limit fault
  of_memory : IsFirstSolveFault test prices limit Memory
