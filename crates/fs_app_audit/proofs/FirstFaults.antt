-- Which fault is answered first.
use Rattle.std.proofs.Common.{◌≡◌, ◌≢◌, inl, inr, ℕ, List, Result, Ok, Err, IfErr, IsOkUnless, sym, subst}
use Rattle.fs_kinds.specs.declared.fault.Fault.{Fault}
use Rattle.fs_kinds.specs.declared.fault.Fault.TheVariants.{Memory}
use Rattle.fs_kinds.specs.PriceTable.{PriceTable}
use Rattle.std.specs.Prelude.{Some}
use Rattle.fs_model.specs.declared.test.Test.{Test}
use Rattle.fs_model.specs.Test.{IsSame}
use Rattle.fs_cert_evidence.specs.Sizes.{IsUnanswered}
use Rattle.fs_litmus.specs.Reads.{Reads}
use Rattle.fs_litmus.specs.Faults.{IsBroken, IsTestFault}
use Rattle.fs_litmus.proofs.FrontFaults.{unbroken}
use Rattle.fs_app_place_and_order.specs.Place.{ArePricesOf, IsPricesFault}
use Rattle.fs_app_place_and_order.proofs.Faults.{is_memory}
use Rattle.fs_app_test.specs.SaidVerdicts.{IsFaultOf}
use Rattle.fs_app_audit.specs.Audit.{bare, IsTested, IsFirstFault, of_prices, of_test, of_written, of_search, of_memory}
use Rattle.fs_app_audit.specs.declared.asked.Purpose.{Purpose}

-- bytes that read as a test are of the form
of-form : (bytes : List ℕ) (t : Test) (f : Fault) → Reads bytes t → (f ≢ Memory → (line : ℕ) × IsBroken bytes line) → f ≡ Memory
of-form bytes t f reads broken = elim (is_memory f) [
  | inl e ↦ e
  | inr n ↦ (let there = broken n in absurd (unbroken bytes reads.form reads.syntax_of there.0 reads.has_form there.1))
]

pub memory-only : {T : Type 0} (bytes : List ℕ) (t : Test) (r : Result T Fault) → Reads bytes t
    → IfErr r (λ f. f ≢ Memory → (line : ℕ) × IsBroken bytes line) → IsOkUnless r Memory
memory-only bytes t (Ok x) reads broken = tt
memory-only bytes t (Err f) reads broken = of-form bytes t f reads broken

module _ (purpose : Purpose) (test prices : List ℕ) (limit : ℕ) where
  pub audit-memory : (f : Fault) → f ≡ Memory → IsFirstFault purpose test prices limit f
  audit-memory f e = subst (IsFirstFault purpose test prices limit) (sym e) of_memory

  pub audit-prices : (f : Fault) → (f ≢ Memory → IsPricesFault (Some prices) f) → IsFirstFault purpose test prices limit f
  audit-prices f h = elim (is_memory f) [ inl e ↦ audit-memory f e | inr n ↦ of_prices (h n) ]

  module _ (table : PriceTable) (priced : ArePricesOf prices table) where
    pub audit-test : (f : Fault) → (f ≢ Memory → IsTestFault test f) → IsFirstFault purpose test prices limit f
    audit-test f h = elim (is_memory f) [ inl e ↦ audit-memory f e | inr n ↦ of_test table priced (h n) ]

    module _ (t : Test) (reads : Reads test t) where
      pub audit-written : (f : Fault) → (f ≢ Memory → IsFaultOf t f) → IsFirstFault purpose test prices limit f
      audit-written f h = elim (is_memory f) [ inl e ↦ audit-memory f e | inr n ↦ of_written table t priced reads (h n) ]

      pub audit-search : (u : Test) → IsTested t → IsSame u (bare purpose t) → (f : Fault) → (f ≢ Memory → IsUnanswered u table limit f)
          → IsFirstFault purpose test prices limit f
      audit-search u tested same f h =
          elim (is_memory f) [ inl e ↦ audit-memory f e | inr n ↦ of_search table t u priced reads tested same (h n) ]
