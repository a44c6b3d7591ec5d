-- What `order` prints, and the fault that it answers.
use Rattle.std.specs.Prelude.{◌≡◌, ℕ, List, length, ◌++◌, None, Some, codes}
use Rattle.fs_kinds.specs.declared.fault.Fault.{Fault}
use Rattle.fs_kinds.specs.declared.fault.Fault.TheVariants.{BadFence, BadWitness, Memory}
use Rattle.fs_kinds.specs.declared.placement.Entry.{Entry}
use Rattle.fs_kinds.specs.ReasonText.{reason_text}
use Rattle.fs_model.specs.declared.test.Test.{Test}
use Rattle.fs_model.specs.Placed.{IsPlaced}
use Rattle.fs_model.specs.Slots.{slots}
use Rattle.fs_litmus.specs.Reads.{Reads}
use Rattle.fs_litmus.specs.Faults.{IsTestFault}
use Rattle.fs_model.specs.Witness.{Witness}
use Rattle.fs_check.specs.declared.order.OrderVerdict.{OrderVerdict}
use Rattle.fs_check.specs.declared.order.OrderVerdict.TheVariants.{Yes, No}
use Rattle.fs_check.specs.Verdicts.{IsVerdict}
use Rattle.fs_cert_evidence.specs.WitnessFile.{IsWitnessFile}
use Rattle.fs_app_io.specs.declared.status.Status.{Status}
use Rattle.fs_app_io.specs.declared.status.Status.TheVariants.{Success, Denied}
use Rattle.fs_app_place_and_order.specs.Place.{IsBadFences}

abbrev pub verdict_line : OrderVerdict → List ℕ
verdict_line Yes = codes "yes\n"
verdict_line (No reason) = codes "no: " ++ reason_text reason ++ codes "\n"

abbrev pub verdict_status : OrderVerdict → Status
verdict_status Yes = Success
verdict_status (No reason) = Denied

-- the bytes read as a test, the words as a placement of its slots, and the other bytes as a witness; the verdict on
-- this witness is printed
pub record IsOrderAnswer (test witness : List ℕ) (fences : List (List ℕ)) (text : List ℕ) (status : Status) : Type 0 where
  pub the_test : Test
  pub placement : List Entry
  pub given : Witness
  pub verdict : OrderVerdict
  pub reads : Reads test the_test
  pub placed : IsPlaced None (slots the_test) fences (Some placement)
  pub says : IsWitnessFile (length the_test.codes) witness given
  pub judged : IsVerdict the_test placement given verdict
  pub shown : text ≡ verdict_line verdict
  pub ends : status ≡ verdict_status verdict

-- the first fault: of the test, else of the words, else of the witness; want of memory may come in place of any answer
pub data IsFirstOrderFault (test witness : List ℕ) (fences : List (List ℕ)) : Fault → Type 0 where
  of_test : {fault : Fault} → IsTestFault test fault → IsFirstOrderFault test witness fences fault
  of_fences : (t : Test) → Reads test t → IsBadFences None t fences → IsFirstOrderFault test witness fences BadFence
  of_witness : (t : Test) (p : List Entry) → Reads test t → IsPlaced None (slots t) fences (Some p)
      → ((w : Witness) → IsWitnessFile (length t.codes) witness w → ⊥) → IsFirstOrderFault test witness fences BadWitness
  of_memory : IsFirstOrderFault test witness fences Memory
