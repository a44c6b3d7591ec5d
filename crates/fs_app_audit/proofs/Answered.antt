-- What is said of a test as it is written, and which answer that makes.
use Rattle.std.proofs.Common.{◌≡◌, ◌≢◌, ◌⊎◌, ℕ, List, Option, None, Some, Result, Ok, Err, IfErr, IsOkUnless, inl, inr, sym, subst}
use Rattle.fs_kinds.specs.declared.fault.Fault.{Fault}
use Rattle.fs_kinds.specs.declared.fault.Fault.TheVariants.{Memory}
use Rattle.fs_kinds.specs.PriceTable.{PriceTable}
use Rattle.fs_model.specs.declared.test.Test.{Test}
use Rattle.fs_model.specs.Test.{IsSame}
use Rattle.fs_model.specs.Witness.{Witness}
use Rattle.fs_litmus.specs.Faults.{IsTestFault}
use Rattle.fs_litmus.specs.Reads.{Reads}
use Rattle.fs_model_laws.specs.InPlace.{emptied}
use Rattle.fs_board_search.specs.Answers.{IsLimitFault}
use Rattle.fs_app_place_and_order.specs.Place.{ArePricesOf}
use Rattle.fs_app_place_and_order.proofs.Faults.{is_memory}
use Rattle.fs_app_test.specs.declared.said.Kind.{Kind}
use Rattle.fs_app_test.specs.declared.said.Kind.TheVariants.{Forbidden, Vacuous, Faulty}
use Rattle.fs_app_test.specs.SaidVerdicts.{IsForbidden, IsTestedAs, Says}
use Rattle.fs_app_audit.specs.Audit.{IsTested, IsFirstAuditFault, IsFirstPlacesFault, of_anew, of_memory, of_places, of_test}
use Rattle.fs_app_audit.specs.InPlace.{offers_in_place}
use Rattle.fs_app_audit.specs.declared.asked.Purpose.{Purpose}
use Rattle.fs_app_audit.proofs.FirstFaults.{audit-memory}

says_forbidden : (t : Test) (why : List ℕ) (w : Option Witness) → Says t Forbidden why w → IsForbidden t
says_forbidden t why None h = h.forbidden
says_forbidden t why (Some w) h = absurd h

pub forbidden : (t : Test) (why : List ℕ) (w : Option Witness) → IsTestedAs t Forbidden why w → IsForbidden t
forbidden t why w h = says_forbidden t why w h.says

pub forbidden_as : (t : Test) (k : Kind) (why : List ℕ) (w : Option Witness) → k ≡ Forbidden → IsTestedAs t k why w → IsForbidden t
forbidden_as t k why w is h = forbidden t why w (subst (λ (j : Kind). IsTestedAs t j why w) is h)

says_vacuous : (t : Test) (why : List ℕ) (w : Option Witness) → Says t Vacuous why w → Says t Vacuous why None
says_vacuous t why None h = h
says_vacuous t why (Some w) h = absurd h

-- a test that is vacuous has no witness
pub vacuous : (t : Test) (k : Kind) (why : List ℕ) (w : Option Witness) → k ≡ Vacuous → IsTestedAs t k why w → IsTestedAs t Vacuous why None
vacuous t k why w is h =
    let here = subst (λ (j : Kind). IsTestedAs t j why w) is h in
    record { listed = here.listed; says = says_vacuous t why w here.says }

says_fault : (t : Test) (why : List ℕ) (w : Option Witness) → Says t Faulty why w → ⊥
says_fault t why None h = h
says_fault t why (Some w) h = h

pub never_faulty : (t : Test) (k : Kind) (why : List ℕ) (w : Option Witness) → k ≡ Faulty → IsTestedAs t k why w → ⊥
never_faulty t k why w is h = says_fault t why w (subst (λ (j : Kind). IsTestedAs t j why w) is h).says

-- ---- faults

pub memory-audited : {T : Type 0} (test : List ℕ) (limit : ℕ) (table : PriceTable) (r : Result T Fault) → IsOkUnless r Memory
    → IfErr r (λ f. (prices : List ℕ) → ArePricesOf prices table → IsFirstAuditFault test prices limit f)
memory-audited test limit table (Ok x) h = tt
memory-audited test limit table (Err f) h = λ prices priced. subst (IsFirstAuditFault test prices limit) (sym h) (of_anew of_memory)

module _ (purpose : Purpose) (test prices : List ℕ) (limit : ℕ) (table : PriceTable) (priced : ArePricesOf prices table) (t : Test) (reads : Reads test t)
    (tested : IsTested t) where
  -- why there is nothing in place
  abbrev IsFaultInPlace : Fault → Type 0
  IsFaultInPlace f = IsTestFault test f ⊎ ((u : Test) × IsSame u (emptied t) × IsLimitFault (record { test = u; offers = offers_in_place table t.codes }) limit f)

  pub fault-in-place : (f : Fault) → (f ≢ Memory → IsFaultInPlace f) → IsFirstPlacesFault purpose test prices limit f
  fault-in-place f h = elim (is_memory f) [
    | inl e ↦ of_anew (audit-memory purpose test prices limit f e)
    | inr n ↦ elim (h n) [
      | inl form ↦ of_anew (of_test table priced form)
      | inr found ↦ of_places table t found.0 priced reads tested found.1 found.2
    ]
  ]
