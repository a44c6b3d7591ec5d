-- What `order --sites` prints, and the fault that it answers.
use Rattle.std.specs.Prelude.{◌≡◌, Bool, ℕ, List, length}
use Rattle.fs_kinds.specs.declared.fault.Fault.{Fault}
use Rattle.fs_kinds.specs.declared.fault.Fault.TheVariants.{BadFence, BadWitness, Memory}
use Rattle.fs_kinds.specs.declared.placement.Entry.{Entry}
use Rattle.fs_model.specs.declared.test.Test.{Test}
use Rattle.fs_model.specs.Witness.{Witness}
use Rattle.fs_check.specs.declared.order.OrderVerdict.{OrderVerdict}
use Rattle.fs_check.specs.Verdicts.{IsVerdict}
use Rattle.fs_cert_evidence.specs.WitnessFile.{IsWitnessFile}
use Rattle.fs_sites.specs.declared.question.Place.{Place}
use Rattle.fs_sites.specs.Questions.{image}
use Rattle.fs_app_io.specs.declared.status.Status.{Status}
use Rattle.fs_app_place_and_order.specs.Order.{verdict_line, verdict_status}
use Rattle.fs_app_sites.specs.Sited.{AreBadWords, AreFences, AreSites, IsSitedFault}

-- the verdict on the witness in the test with the fence of each site at all its copies is printed
pub record IsSitesOrderAnswer (is_free : Bool) (test witness : List ℕ) (words : List (List ℕ)) (text : List ℕ)
    (status : Status) : Type 0 where
  pub the_test : Test
  pub places : List Place
  pub kinds : List Entry
  pub given : Witness
  pub verdict : OrderVerdict
  pub fences : AreFences is_free test words the_test places kinds
  pub says : IsWitnessFile (length the_test.codes) witness given
  pub judged : IsVerdict the_test (image places kinds) given verdict
  pub shown : text ≡ verdict_line verdict
  pub ends : status ≡ verdict_status verdict

-- the first fault: of the file, else of the words, else of the witness; want of memory may come in place of any answer
pub data IsFirstSitesOrderFault (is_free : Bool) (test witness : List ℕ) (words : List (List ℕ)) : Fault → Type 0 where
  of_file : {fault : Fault} → IsSitedFault is_free test fault → IsFirstSitesOrderFault is_free test witness words fault
  of_words : (t : Test) (places : List Place) (names : List (List ℕ)) → AreSites is_free test t places names
      → AreBadWords names words → IsFirstSitesOrderFault is_free test witness words BadFence
  of_witness : (t : Test) (places : List Place) (kinds : List Entry) → AreFences is_free test words t places kinds
      → ((w : Witness) → IsWitnessFile (length t.codes) witness w → ⊥)
      → IsFirstSitesOrderFault is_free test witness words BadWitness
  of_memory : IsFirstSitesOrderFault is_free test witness words Memory
