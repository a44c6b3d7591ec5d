-- Which fault `order` answers first.
use Rattle.std.proofs.Common.{◌≡◌, ◌≢◌, ◌⊎◌, inl, inr, ℕ, List, None, Some, length, sym, subst}
use Rattle.fs_kinds.specs.declared.fault.Fault.{Fault}
use Rattle.fs_kinds.specs.declared.fault.Fault.TheVariants.{Memory, BadFence, BadWitness}
use Rattle.fs_kinds.specs.declared.placement.Entry.{Entry}
use Rattle.fs_model.specs.declared.test.Test.{Test}
use Rattle.fs_model.specs.Placed.{IsPlaced}
use Rattle.fs_model.specs.Slots.{slots}
use Rattle.fs_litmus.specs.Reads.{Reads}
use Rattle.fs_litmus.specs.Faults.{IsTestFault}
use Rattle.fs_model.specs.Witness.{Witness}
use Rattle.fs_cert_evidence.specs.WitnessFile.{IsWitnessFile, IsWitnessFault}
use Rattle.fs_app_place_and_order.specs.Place.{IsBadFences}
use Rattle.fs_app_place_and_order.specs.Order.{IsFirstOrderFault, of_test, of_fences, of_witness, of_memory}
use Rattle.fs_app_place_and_order.proofs.Faults.{is_memory}

module _ (test witness : List ℕ) (fences : List (List ℕ)) where
  pub order-memory : (f : Fault) → f ≡ Memory → IsFirstOrderFault test witness fences f
  order-memory f e = subst (IsFirstOrderFault test witness fences) (sym e) of_memory

  pub order-test : (f : Fault) → (f ≢ Memory → IsTestFault test f) → IsFirstOrderFault test witness fences f
  order-test f h = elim (is_memory f) [ inl e ↦ order-memory f e | inr n ↦ of_test (h n) ]

  pub order-fences : (f : Fault) (t : Test) → Reads test t → (f ≡ BadFence → IsBadFences None t fences) → (f ≡ BadFence) ⊎ (f ≡ Memory) → IsFirstOrderFault test witness fences f
  order-fences f t reads bad other = elim other [
    | inl e ↦ subst (IsFirstOrderFault test witness fences) (sym e) (of_fences t reads (bad e))
    | inr e ↦ order-memory f e
  ]

  pub order-witness : (f : Fault) (t : Test) (p : List Entry) → Reads test t → IsPlaced None (slots t) fences (Some p)
      → (f ≡ BadWitness → (w : Witness) → IsWitnessFile (length t.codes) witness w → ⊥) → IsWitnessFault f → IsFirstOrderFault test witness fences f
  order-witness f t p reads placed bad other = elim other [
    | inl e ↦ subst (IsFirstOrderFault test witness fences) (sym e) (of_witness t p reads placed (bad e))
    | inr e ↦ order-memory f e
  ]
