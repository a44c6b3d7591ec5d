-- Which fault `solve` answers first.
use Rattle.std.proofs.Common.{◌≡◌, ◌≢◌, ◌∙◌, inl, inr, ℕ, List, Some, Result, Ok, Err, IfOk, sym, subst}
use Rattle.fs_kinds.specs.declared.fault.Fault.{Fault}
use Rattle.fs_kinds.specs.declared.fault.Fault.TheVariants.{Memory}
use Rattle.fs_kinds.specs.PriceTable.{PriceTable}
use Rattle.fs_litmus.specs.Faults.{IsTestFault}
use Rattle.fs_app_place_and_order.specs.Place.{ArePricesOf, IsPricesFault}
use Rattle.fs_app_place_and_order.proofs.Faults.{is_memory}
use Rattle.fs_board_offers.specs.Questions.{Question}
use Rattle.fs_board_search.proofs.PricedAnswers.{priced-fault}
use Rattle.fs_pool_workers.specs.Answers.{IsSolveFault}
use Rattle.fs_app_solve_and_check.specs.Solve.{IsFirstSolveFault, of_prices, of_test, of_search, of_memory}
use Rattle.fs_app_solve_and_check.specs.Found.{IsAskedBy}

module _ (test prices : List ℕ) (limit : ℕ) where
  pub solve-memory : (f : Fault) → f ≡ Memory → IsFirstSolveFault test prices limit f
  solve-memory f e = subst (IsFirstSolveFault test prices limit) (sym e) of_memory

  pub solve-prices : (f : Fault) → (f ≢ Memory → IsPricesFault (Some prices) f) → IsFirstSolveFault test prices limit f
  solve-prices f h = elim (is_memory f) [ inl e ↦ solve-memory f e | inr n ↦ of_prices (h n) ]

  pub solve-test : (f : Fault) (table : PriceTable) → ArePricesOf prices table → (f ≢ Memory → IsTestFault test f) → IsFirstSolveFault test prices limit f
  solve-test f table priced h = elim (is_memory f) [ inl e ↦ solve-memory f e | inr n ↦ of_test table priced (h n) ]

  -- that of a search, which was asked a copy of the question
  pub solve-search : (asked given : Question) (f : Fault) → IsAskedBy test prices asked → given ≡ asked → (f ≢ Memory → IsSolveFault given limit f)
      → IsFirstSolveFault test prices limit f
  solve-search asked given f by copied h =
      elim (is_memory f) [
        | inl e ↦ solve-memory f e
        | inr n ↦ of_search by.table asked.test by.priced by.reads
            (priced-fault asked.test by.table given limit f (copied ∙ by.asked_is) (h n))
      ]

-- what follows from what holds of an answer holds of it
pub if_ok : {T E : Type 0} (P Q : T → Type 0) (r : Result T E) → IfOk r P → ((x : T) → P x → Q x) → IfOk r Q
if_ok P Q (Ok x) h f = f x h
if_ok P Q (Err e) h f = tt
