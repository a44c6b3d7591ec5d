-- Which placements are of least cost.
use Rattle.std.proofs.Common.{◌≡◌, ◌<◌, List, true, false, Bool, refl, sym, inl, inr, Option, Some, None, IfSome, subst, arith}
use Rattle.std.specs.Prelude.{nat_lt}
use Rattle.std.proofs.lemmas.Bool.{cases_lt}
use Rattle.std.proofs.lemmas.Bool.Decides.{nat_tests}
use Rattle.fs_kinds.specs.declared.placement.Entry.{Entry}
use Rattle.fs_kinds.specs.Placement.{slots_of}
use Rattle.fs_kinds.specs.PriceTable.{PriceTable, are_offered, cost}
use Rattle.fs_model.specs.declared.test.Test.{Test}
use Rattle.fs_model.specs.Allows.{Allows, IsCheapest, IsPlacement, is_better}
use Rattle.fs_model.specs.Slots.{slots}
use Rattle.fs_cert_evidence.specs.Certificate.{IsLeastCost}
use Rattle.fs_app_audit.specs.Audit.{IsAdvised, IsKept, costs_everywhere}

module _ (t : Test) (prices : PriceTable) where
  lower_is_better : (p q : List Entry) → cost prices q < cost prices p → is_better prices q p ≡ true
  lower_is_better p q low = by (nat_lt (cost prices q) (cost prices p)) refl where
    by : (b : Bool) → nat_lt (cost prices q) (cost prices p) ≡ b → is_better prices q p ≡ true
    by true e = rw e refl
    by false e = absurd (grind (arith, nat_tests, low, e))

  -- the first of the cheapest is one of the cheapest
  pub first_is_least : (p : List Entry) → IsCheapest t prices p → IsLeastCost t prices p
  first_is_least p h = record {
    placement = h.placement;
    forbids = h.forbids;
    cheaper = λ q placed low. h.better q placed (lower_is_better p q low);
  }

  -- and so is what costs as much and forbids the outcome
  pub same_is_least : (p q : List Entry) → IsCheapest t prices p → slots_of q ≡ slots t → are_offered prices q ≡ true
      → cost prices p ≡ cost prices q → (Allows t q → ⊥) → IsLeastCost t prices q
  same_is_least p q h own offered same forbids = record {
    placement = record { slots = own; offered = offered };
    forbids = forbids;
    cheaper = λ other placed low. h.better other placed (lower_is_better p other (omega (arith, low, same)));
  }

  -- what costs something else isn't
  pub not_least : (p q : List Entry) → IsCheapest t prices p → (cost prices q ≡ cost prices p → ⊥) → IsLeastCost t prices q → ⊥
  not_least p q h other least = elim (cases_lt (cost prices q) (cost prices p)) [
    | inl less ↦ least.forbids (h.better q least.placement (lower_is_better p q less))
    | inr high ↦ elim (cases_lt (cost prices p) (cost prices q)) [
      | inl more ↦ h.forbids (least.cheaper p h.placement more)
      | inr low ↦ other (omega (arith, high, low))
    ]
  ]

  -- a placement is kept where each of its fences costs something, and it costs as much and forbids the outcome
  pub is-kept : (p q : List Entry) → costs_everywhere prices q ≡ true → IsCheapest t prices p → slots_of q ≡ slots t
      → are_offered prices q ≡ true → cost prices p ≡ cost prices q → (Allows t q → ⊥) → IsKept t prices q
  is-kept p q each h own offered same forbids = (each, same_is_least p q h own offered same forbids)

  -- what is advised is a placement over the slots of the test, with kinds that have a price
  pub placement-advised : (own : List Entry) (best : Option (List Entry)) → IsAdvised t prices own best
      → IfSome best (λ p. (slots_of p ≡ slots t) × (are_offered prices p ≡ true))
  placement-advised own None h = tt
  placement-advised own (Some p) h = elim h [
    | inl kept ↦
        let placed = subst (IsPlacement t prices) (sym kept.0) kept.1.1.placement in (placed.slots, placed.offered)
    | inr first ↦ (first.0.placement.slots, first.0.placement.offered)
  ]
