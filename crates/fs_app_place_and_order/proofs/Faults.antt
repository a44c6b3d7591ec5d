-- Which fault is answered first.
use Rattle.std.proofs.Common.{◌≡◌, ◌≢◌, ◌⊎◌, inl, inr, ℕ, List, Option, Some, None, Result, Ok, Err, IfErr, refl, sym, ap, subst, arith}
use Rattle.std.specs.Result.{IsErrAnd, IsErrOf}
use Rattle.fs_kinds.specs.declared.fault.Fault.{Fault}
use Rattle.fs_kinds.specs.declared.fault.Fault.TheVariants.{Memory, BadFence, BadPrices, NoTop}
use Rattle.fs_kinds.specs.FaultLine.{number}
use Rattle.fs_kinds.specs.PriceObject.{ArePrices, IsPriceFault, price_in}
use Rattle.fs_kinds.specs.declared.kind.Kind.TheVariants.{RwRw}
use Rattle.fs_kinds.specs.PriceTable.{PriceTable}
use Rattle.fs_model.specs.declared.test.Test.{Test}
use Rattle.fs_litmus.specs.Reads.{Reads}
use Rattle.fs_litmus.specs.Faults.{IsTestFault}
use Rattle.fs_app_place_and_order.specs.Place.{ArePriced, IsPricesFault, IsBadFences, IsFirstPlaceFault, of_prices, of_test, of_fences, of_memory, no_prices, no_top}

pub is_memory : (f : Fault) → (f ≡ Memory) ⊎ (f ≢ Memory)
is_memory Memory = inl refl
is_memory f = inr (λ e. let n : number f ≡ 19 = ap number e in absurd (omega (arith, n)))

-- what holds of the error handed on holds of the result
pub IfErr-handed : {T : Type 0} (r : Result T Fault) (fault : Fault) (P : Fault → Type 0)
    → IsErrAnd r (λ f. f ≡ fault) → P fault → IfErr r P
IfErr-handed (Ok x) fault P h p = tt
IfErr-handed (Err f) fault P h p = subst P (sym h) p

module _ (test : List ℕ) (prices : Option (List ℕ)) (fences : List (List ℕ)) where
  pub first-memory : (f : Fault) → f ≡ Memory → IsFirstPlaceFault test prices fences f
  first-memory f e = subst (IsFirstPlaceFault test prices fences) (sym e) of_memory

  pub first-prices : (f : Fault) → (f ≢ Memory → IsPricesFault prices f) → IsFirstPlaceFault test prices fences f
  first-prices f h = elim (is_memory f) [ inl e ↦ first-memory f e | inr n ↦ of_prices (h n) ]

  pub first-test : (f : Fault) (table : Option PriceTable) → ArePriced prices table → (f ≢ Memory → IsTestFault test f) → IsFirstPlaceFault test prices fences f
  first-test f table priced h = elim (is_memory f) [ inl e ↦ first-memory f e | inr n ↦ of_test table priced (h n) ]

  pub first-fences : (f : Fault) (table : Option PriceTable) (t : Test) → ArePriced prices table → Reads test t
      → (f ≡ BadFence → IsBadFences table t fences) → (f ≡ BadFence) ⊎ (f ≡ Memory) → IsFirstPlaceFault test prices fences f
  first-fences f table t priced reads bad other =
      elim other [
        | inl e ↦ subst (IsFirstPlaceFault test prices fences) (sym e) (of_fences table t priced reads (bad e))
        | inr e ↦ first-memory f e
      ]

-- what `read_prices` says of its error
pub IsPricesFault-read : {T : Type 0} (bytes : List ℕ) (f : Fault) → IsPriceFault f
    → (IsErrOf {T = T} (Err f) BadPrices → (ms : _) → ArePrices bytes ms → ⊥)
    → (IsErrOf {T = T} (Err f) NoTop → (ms : _) × ArePrices bytes ms × (price_in ms RwRw ≡ None))
    → f ≢ Memory → IsPricesFault (Some bytes) f
IsPricesFault-read bytes f fault bad top n =
    elim fault [
      | inl e ↦ let found = top (ap (λ x. Err x) e) in subst (IsPricesFault (Some bytes)) (sym e) (no_top found.0 found.1 found.2)
      | inr w ↦ elim w [
        | inl e ↦ subst (IsPricesFault (Some bytes)) (sym e) (no_prices (bad (ap (λ x. Err x) e)))
        | inr e ↦ absurd (n e)
      ]
    ]
