-- What `test` says of a file, and the fault that it answers.
use Rattle.std.specs.Prelude.{◌≡◌, ◌≢◌, ◌⊎◌, ℕ, Option, None, List, Result, Ok, Err, Vec}
use Rattle.fs_kinds.specs.declared.fault.Fault.{Fault}
use Rattle.fs_kinds.specs.declared.fault.Fault.TheVariants.{Memory, TooManyCandidates}
use Rattle.fs_kinds.specs.FaultLine.{fault_line}
use Rattle.fs_model.specs.declared.test.Test.{Test}
use Rattle.fs_model.specs.TooMany.{IsRunFault}
use Rattle.fs_model.specs.Witness.{Witness}
use Rattle.fs_litmus.specs.Reads.{Reads}
use Rattle.fs_litmus.specs.Faults.{IsTestFault}
use Rattle.fs_cert_evidence.specs.CandidateFaults.{IsCandidateFault}
use Rattle.fs_app_test.specs.declared.said.Kind.{Kind}
use Rattle.fs_app_test.specs.declared.said.Kind.TheVariants as kind
use Rattle.fs_app_test.specs.SaidVerdicts.{HasNoRunFault, IsLeftOpen, MayBeSerious, Says}

-- ---- of the bytes of a file

-- they read as a test, of which this is said
pub record IsTested (test : List ℕ) (said : Kind) (why : List ℕ) (witness : Option Witness) : Type 0 where
  pub the_test : Test
  pub reads : Reads test the_test
  pub listed : HasNoRunFault the_test
  pub says : Says the_test said why witness

-- The first fault: of the test, else of its runs, else, where it isn't vacuous or that may be left open, of its
-- candidates; or it is left open. Want of memory may come in place of any answer.
pub data IsFirstTestFault (test : List ℕ) : Fault → Type 0 where
  of_test : {fault : Fault} → IsTestFault test fault → IsFirstTestFault test fault
  of_runs : {fault : Fault} (t : Test) → Reads test t → IsRunFault t fault → IsFirstTestFault test fault
  of_candidates : {fault : Fault} (t : Test) → Reads test t → MayBeSerious t → IsCandidateFault t fault
      → IsFirstTestFault test fault
  of_open : (t : Test) → Reads test t → IsLeftOpen t → IsFirstTestFault test TooManyCandidates
  of_memory : IsFirstTestFault test Memory

-- ---- of a file

-- The line names the fault. Want of memory has no line: it ends the run.
pub record NamesFault (fault : Fault) (said : Kind) (why : List ℕ) (witness : Option Witness) : Type 0 where
  pub faulty : said ≡ kind.Faulty
  pub known : fault ≢ Memory
  pub shown : why ≡ fault_line fault
  pub alone : witness ≡ None

-- the test that the bytes are, or the first fault
abbrev pub SaysOfBytes : List ℕ → Kind → (why : List ℕ) → Option Witness → Type 0
SaysOfBytes test said why witness =
    IsTested test said why witness ⊎ ((fault : Fault) × IsFirstTestFault test fault × NamesFault fault said why witness)

-- of the bytes that were read, or of the fault of reading them
module _ {A : Type 0} where
  abbrev pub SaysOfFile : Result (Vec ℕ A) Fault → Kind → (why : List ℕ) → Option Witness → Type 0
  SaysOfFile (Ok test) said why witness = SaysOfBytes test.items said why witness
  SaysOfFile (Err fault) said why witness = NamesFault fault said why witness
