-- Which fault is answered first.
use Rattle.std.proofs.Common.{◌≡◌, ◌≢◌, inl, inr, ℕ, List, sym, subst}
use Rattle.fs_kinds.specs.declared.fault.Fault.{Fault}
use Rattle.fs_kinds.specs.declared.fault.Fault.TheVariants.{Memory}
use Rattle.fs_model.specs.declared.test.Test.{Test}
use Rattle.fs_litmus.specs.Reads.{Reads}
use Rattle.fs_litmus.specs.Faults.{IsTestFault}
use Rattle.fs_app_place_and_order.proofs.Faults.{is_memory}
use Rattle.fs_app_test.specs.SaidVerdicts.{IsFaultOf}
use Rattle.fs_app_test.specs.Verdicts.{IsFirstTestFault, of_test, of_runs, of_candidates, of_open, of_memory}

module _ (test : List ℕ) where
  pub test-memory : (f : Fault) → f ≡ Memory → IsFirstTestFault test f
  test-memory f e = subst (IsFirstTestFault test) (sym e) of_memory

  pub test-test : (f : Fault) → (f ≢ Memory → IsTestFault test f) → IsFirstTestFault test f
  test-test f h = elim (is_memory f) [ inl e ↦ test-memory f e | inr n ↦ of_test (h n) ]

  met : (t : Test) (f : Fault) → Reads test t → IsFaultOf t f → IsFirstTestFault test f
  met t f reads h = elim h [
    | inl runs ↦ of_runs t reads runs
    | inr rest ↦ elim rest [
      | inl candidates ↦ of_candidates t reads candidates.0 candidates.1
      | inr left ↦ subst (IsFirstTestFault test) (sym left.0) (of_open t reads left.1)
    ]
  ]

  pub test-met : (t : Test) (f : Fault) → Reads test t → (f ≢ Memory → IsFaultOf t f) → IsFirstTestFault test f
  test-met t f reads h = elim (is_memory f) [ inl e ↦ test-memory f e | inr n ↦ met t f reads (h n) ]
