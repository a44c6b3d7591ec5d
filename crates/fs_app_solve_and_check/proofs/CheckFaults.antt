-- Which fault `check` answers first, and what holds of its answers.
use Rattle.std.proofs.Common.{◌≡◌, ◌≢◌, inl, inr, ℕ, List, Some, Result, Ok, Err, IfOk, sym, subst}
use Rattle.fs_kinds.specs.declared.fault.Fault.{Fault}
use Rattle.fs_kinds.specs.declared.fault.Fault.TheVariants.{Memory}
use Rattle.fs_kinds.specs.PriceTable.{PriceTable}
use Rattle.fs_model.specs.declared.test.Test.{Test}
use Rattle.fs_litmus.specs.Reads.{Reads}
use Rattle.fs_litmus.specs.Faults.{IsTestFault}
use Rattle.fs_app_place_and_order.specs.Place.{IsPricesFault, ArePricesOf}
use Rattle.fs_app_place_and_order.proofs.Faults.{is_memory}
use Rattle.fs_check_certificate.specs.declared.certificate_verdict.CheckVerdict.{CheckVerdict}
use Rattle.fs_check_certificate.specs.Checks.{IsCheckFault, IsJudged}
use Rattle.fs_app_solve_and_check.specs.Check.{IsFirstCheckFault, of_prices, of_test, of_check, of_memory}

module _ (test prices certificate : List ℕ) where
  check-memory : (f : Fault) → f ≡ Memory → IsFirstCheckFault test prices certificate f
  check-memory f e = subst (IsFirstCheckFault test prices certificate) (sym e) of_memory

  pub check-prices : (f : Fault) → (f ≢ Memory → IsPricesFault (Some prices) f) → IsFirstCheckFault test prices certificate f
  check-prices f h = elim (is_memory f) [ inl e ↦ check-memory f e | inr n ↦ of_prices (h n) ]

  pub check-test : (f : Fault) (table : PriceTable) → ArePricesOf prices table → (f ≢ Memory → IsTestFault test f) → IsFirstCheckFault test prices certificate f
  check-test f table priced h = elim (is_memory f) [ inl e ↦ check-memory f e | inr n ↦ of_test table priced (h n) ]

  pub check-certificate : (f : Fault) (table : PriceTable) (t : Test) → ArePricesOf prices table → Reads test t
      → (f ≢ Memory → IsCheckFault t certificate f) → IsFirstCheckFault test prices certificate f
  check-certificate f table t priced reads h = elim (is_memory f) [ inl e ↦ check-memory f e | inr n ↦ of_check table t priced reads (h n) ]

-- what is said of a test is said of the same one
pub of_test_fault : (asked other : Test) (certificate : List ℕ) (f : Fault) → asked ≡ other → (f ≢ Memory → IsCheckFault asked certificate f)
    → f ≢ Memory → IsCheckFault other certificate f
of_test_fault asked other certificate f same h = subst (λ t. f ≢ Memory → IsCheckFault t certificate f) same h

-- what follows from what holds of an answer holds of it
pub if_ok : {T E : Type 0} (P Q : T → Type 0) (r : Result T E) → IfOk r P → ((x : T) → P x → Q x) → IfOk r Q
if_ok P Q (Ok x) h f = f x h
if_ok P Q (Err e) h f = tt

pub of_test_verdict : (asked other : Test) (prices : PriceTable) (bytes : List ℕ) (v : CheckVerdict) → asked ≡ other
    → IsJudged asked prices bytes v → IsJudged other prices bytes v
of_test_verdict asked other prices bytes v same h = subst (λ t. IsJudged t prices bytes v) same h
