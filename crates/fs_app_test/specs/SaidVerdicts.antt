-- What is said of a test, and the fault that is answered.
use Rattle.std.specs.Prelude.{◌≡◌, ◌⊎◌, ℕ, ◌≤◌, Bool, true, false, Option, None, Some, option_map, List}
use Rattle.fs_kinds.specs.declared.fault.Fault.{Fault}
use Rattle.fs_kinds.specs.declared.fault.Fault.TheVariants.{TooManyCandidates}
use Rattle.fs_model.specs.declared.test.Test.{Test}
use Rattle.fs_model.specs.declared.step.Step.{Step}
use Rattle.fs_model.specs.Allows.{Allows, Shows, no_fences}
use Rattle.fs_model.specs.Execution.{Execution}
use Rattle.fs_model.specs.TooMany.{IsRunFault}
use Rattle.fs_model.specs.Witness.{Witness, IsOfWitness}
use Rattle.fs_cert_evidence.specs.CandidateFaults.{IsCandidateFault}
use Rattle.fs_cert_evidence.specs.Certificate.{Cycles}
use Rattle.fs_cert_evidence.specs.Trees.{AreItsRuns}
use Rattle.fs_cert_evidence.specs.Valid.{Forbid}
use Rattle.fs_cert_evidence.specs.Evidence.{Shown}
use Rattle.fs_app_test.specs.declared.said.Kind.{Kind}
use Rattle.fs_app_test.specs.declared.said.Kind.TheVariants as kind
use Rattle.fs_judge_outcomes.specs.Vacuous.{IsVacuous, HasManyRuns}
use Rattle.fs_app_test.specs.Words.{contradictions_in, forbidden_words, overtaking, order_words, never_in_outcome, never_words}

-- no execution of the test as it is written shows the outcome
abbrev pub IsForbidden : Test → Type 0
IsForbidden t = Allows t (no_fences t) → ⊥

-- it isn't vacuous, or it has so many runs that this may be left open
abbrev pub MayBeSerious : Test → Type 0
MayBeSerious t = (IsVacuous t → ⊥) ⊎ HasManyRuns t

-- the same by whether it is settled that it isn't vacuous
abbrev pub IsSettled : Test → (settled : Bool) → Type 0
IsSettled t true = IsVacuous t → ⊥
IsSettled t false = HasManyRuns t

-- These cycles, or this refutation, show that it is forbidden. Which of those that do are spoken of is left open. Where
-- it is open whether the test is vacuous they have a contradiction.
pub record SaysForbidden (t : Test) (why : List ℕ) : Type 0 where
  pub forbidden : IsForbidden t
  pub cycles : Cycles
  pub shows : Forbid t (no_fences t) cycles
  pub serious : (IsVacuous t → ⊥) ⊎ (HasManyRuns t × (1 ≤ contradictions_in cycles))
  pub shown : why ≡ forbidden_words cycles

-- the witness gives an execution of the test as it is written, which shows the outcome
pub record SaysAllowed (t : Test) (why : List ℕ) (witness : Witness) : Type 0 where
  pub execution : Execution
  pub given : IsOfWitness t witness execution
  pub shows : Shows t (no_fences t) execution
  pub shown : why ≡ order_words (overtaking witness.order)

-- the words are about all runs of each hart
pub record SaysVacuous (t : Test) (why : List ℕ) : Type 0 where
  pub vacuous : IsVacuous t
  pub forbidden : IsForbidden t
  pub runs : ℕ → List (List Step)
  pub all : AreItsRuns t runs
  pub shown : why ≡ never_words t (never_in_outcome t runs)

-- this, and with it a witness where the outcome is possible
abbrev pub Says : Test → Kind → (why : List ℕ) → Option Witness → Type 0
Says t kind.Forbidden why None = SaysForbidden t why
Says t kind.Allowed why (Some witness) = SaysAllowed t why witness
Says t kind.Vacuous why None = SaysVacuous t why
Says t _ why _ = ⊥

-- the witness that is kept
abbrev pub witness_in : Option Shown → Option Witness
witness_in = option_map (λ shown. shown.witness)

abbrev pub HasNoRunFault : Test → Type 0
HasNoRunFault t = (f : Fault) → IsRunFault t f → ⊥

-- its runs can be listed, and this is said of it
pub record IsTestedAs (t : Test) (said : Kind) (why : List ℕ) (witness : Option Witness) : Type 0 where
  pub listed : HasNoRunFault t
  pub says : Says t said why witness

-- The outcome is forbidden, and it isn't known whether the test is vacuous: it has so many runs that this may be left
-- open, and what was found to show that it is forbidden has no contradiction.
pub record IsLeftOpen (t : Test) : Type 0 where
  pub many : HasManyRuns t
  pub forbidden : IsForbidden t
  pub cycles : Cycles
  pub shows : Forbid t (no_fences t) cycles
  pub none : contradictions_in cycles ≡ 0

-- The fault of a test: of its runs; or else, where it isn't vacuous or that may be left open, of its candidates; or
-- that it is left open, which counts as too many candidates.
abbrev pub IsFaultOf : Test → Fault → Type 0
IsFaultOf t f = IsRunFault t f ⊎ ((MayBeSerious t × IsCandidateFault t f) ⊎ ((f ≡ TooManyCandidates) × IsLeftOpen t))
