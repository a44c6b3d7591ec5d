-- Which fault is answered, and what is said of a test that is allowed.
use Rattle.std.proofs.Common.{◌≡◌, ◌≢◌, ◌⊎◌, inl, inr, ℕ, List, Option, None, Some, Result, Ok, Err, IfErr, IsOkUnless, subst, sym}
use Rattle.fs_kinds.specs.declared.fault.Fault.{Fault}
use Rattle.fs_kinds.specs.declared.fault.Fault.TheVariants.{Memory}
use Rattle.fs_kinds.specs.declared.placement.Entry.{Entry}
use Rattle.fs_kinds.specs.PriceTable.{PriceTable}
use Rattle.fs_model.specs.declared.test.Test.{Test}
use Rattle.fs_model.specs.Allows.{no_fences}
use Rattle.fs_model.specs.Witness.{Witness}
use Rattle.fs_litmus.specs.Faults.{IsTestFault}
use Rattle.fs_litmus.specs.Reads.{Reads}
use Rattle.fs_cert_evidence.specs.Shown.{IsShownBy}
use Rattle.fs_app_place_and_order.specs.Place.{ArePricesOf}
use Rattle.fs_app_place_and_order.proofs.Faults.{is_memory}
use Rattle.fs_app_test.specs.declared.said.Kind.TheVariants.{Allowed}
use Rattle.fs_app_test.specs.SaidVerdicts.{IsTestedAs, Says}
use Rattle.fs_app_audit.specs.Audit.{of_anew, of_memory, of_test}
use Rattle.fs_app_audit_json_and_why.specs.Why.{AreAdvised, IsAdvisedFault, IsFirstWhyFault, of_advised, of_audit}

pub why-memory : (test prices : List ℕ) (limit : ℕ) (f : Fault) → f ≡ Memory → IsFirstWhyFault test prices limit f
why-memory test prices limit f e = subst (IsFirstWhyFault test prices limit) (sym e) (of_audit (of_anew of_memory))

pub why-memory-only : {T : Type 0} (test : List ℕ) (limit : ℕ) (table : PriceTable) (r : Result T Fault) → IsOkUnless r Memory
    → IfErr r (λ f. (prices : List ℕ) → ArePricesOf prices table → IsFirstWhyFault test prices limit f)
why-memory-only test limit table (Ok x) h = tt
why-memory-only test limit table (Err f) h = λ prices priced. why-memory test prices limit f h

pub why-advised : (test prices : List ℕ) (limit : ℕ) (table : PriceTable) (t : Test) (p : List Entry) (f : Fault) → ArePricesOf prices table
    → Reads test t → AreAdvised t table p → (f ≢ Memory → IsTestFault test f ⊎ IsAdvisedFault t p f) → IsFirstWhyFault test prices limit f
why-advised test prices limit table t p f priced reads are h = elim (is_memory f) [
  | inl e ↦ why-memory test prices limit f e
  | inr n ↦ elim (h n) [
    | inl form ↦ of_audit (of_anew (of_test table priced form))
    | inr met ↦ of_advised table t p priced reads are met
  ]
]

says_none : (t : Test) (why : List ℕ) (w : Option Witness) → w ≡ None → Says t Allowed why w → ⊥
says_none t why None is h = h
says_none t why (Some w) is h = absurd (cc)

pub no_witness : (t : Test) (why : List ℕ) (w : Option Witness) → w ≡ None → IsTestedAs t Allowed why w → ⊥
no_witness t why w is h = says_none t why w is h.says

says_shown : (t : Test) (why : List ℕ) (v : Witness) → Says t Allowed why (Some v) → IsShownBy t (no_fences t) v
says_shown t why v h = (h.execution, (h.given, h.shows))

pub shown_by_witness : (t : Test) (why : List ℕ) (w : Option Witness) (v : Witness) → w ≡ Some v → IsTestedAs t Allowed why w
    → IsShownBy t (no_fences t) v
shown_by_witness t why w v is h = says_shown t why v (subst (Says t Allowed why) is h.says)
