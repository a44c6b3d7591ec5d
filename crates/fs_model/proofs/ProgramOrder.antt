-- Program order: what it asks of two operations, and which two it orders.
use Rattle.std.proofs.Common.{◌≡◌, ℕ, nat_lt, ◌<◌, ◌⊎◌, inl, inr, true, Some, option_map, unwrap_or, [], length, ap, subst, arith}
use Rattle.std.proofs.lemmas.Bool.{cases_lt, and_parts, and_from, ltb-true, lt-ltb}
use Rattle.fs_model.specs.Numbers.{is_same}
use Rattle.fs_model.specs.Operations.{PreExecution, accesses, operation, place, steps_of, trace_of, same_hart, po}
use Rattle.fs_model.proofs.OptionalNumbers.{same_parts, same_from, same_is, one_value}
use Rattle.fs_model.proofs.HartOperations.{in_order}
use Rattle.fs_model.proofs.WhichOperation.{hart_access}

pub record InPo (x : PreExecution) (a b : ℕ) : Type 0 where
  pub hart : ℕ
  pub first : (operation x a).hart ≡ Some hart
  pub second : (operation x b).hart ≡ Some hart
  pub forward : place x a < place x b

pub in_po : (x : PreExecution) (a b : ℕ) → po x a b ≡ true → InPo x a b
in_po x a b h =
    let parts = and_parts (same_hart x a b) (nat_lt (place x a) (place x b)) h in
    let harts = same_parts (operation x a).hart (operation x b).hart parts.0 in
    record { hart = harts.0; first = harts.1; second = harts.2; forward = ltb-true (place x a) (place x b) parts.1 }

pub po_same : (x : PreExecution) (a b : ℕ) → po x a b ≡ true → same_hart x a b ≡ true
po_same x a b h = (and_parts (same_hart x a b) (nat_lt (place x a) (place x b)) h).0

pub po_apart : (x : PreExecution) (a : ℕ) → po x a a ≡ true → ⊥
po_apart x a h = let at = in_po x a a h in omega (arith, at.forward)

po_from : (x : PreExecution) (a b : ℕ) → same_hart x a b ≡ true → place x a < place x b → po x a b ≡ true
po_from x a b same low = and_from (same_hart x a b) (nat_lt (place x a) (place x b)) same (lt-ltb (place x a) (place x b) low)

-- of one hart, the lesser number is first
pub below_po : (x : PreExecution) (a b : ℕ) → same_hart x a b ≡ true → a < b → po x a b ≡ true
below_po x a b same low =
    let harts = same_parts (operation x a).hart (operation x b).hart same in
    let less = in_order x a b low (hart_access x b harts.0 harts.2) in
    let first = one_value (operation x a).hart less.0 harts.0 less.2 harts.1 in
    let second = one_value (operation x b).hart less.1 harts.0 less.3 harts.2 in
    elim less.4 [
      | inl earlier ↦ absurd (omega (arith, earlier, first, second))
      | inr later ↦ po_from x a b same later.1
    ]

-- two operations of one hart are in program order, one way or the other
pub po_total : (x : PreExecution) (a b : ℕ) → same_hart x a b ≡ true → (a ≡ b → ⊥) → (po x a b ≡ true) ⊎ (po x b a ≡ true)
po_total x a b same apart = elim (cases_lt a b) [
  | inl low ↦ inl (below_po x a b same low)
  | inr high ↦ inr (
      let harts = same_parts (operation x a).hart (operation x b).hart same in
      below_po x b a (same_from (operation x b).hart (operation x a).hart harts.0 harts.2 harts.1) (omega (arith, high, apart)))
]

-- ---- operations in program order

-- they are the harts' own
pub po_of_harts : (x : PreExecution) (a b : ℕ) → po x a b ≡ true → (a < length (accesses x)) × (b < length (accesses x))
po_of_harts x a b h = let at = in_po x a b h in (hart_access x a at.hart at.first, hart_access x b at.hart at.second)

pub one_trace : (x : PreExecution) (a b : ℕ) → po x a b ≡ true → trace_of x a ≡ trace_of x b
one_trace x a b h =
    ap (λ o. unwrap_or (option_map (steps_of x.traces) o) []) (same_is (operation x a).hart (operation x b).hart (po_same x a b h))

pub po_place : (x : PreExecution) (a b : ℕ) → po x a b ≡ true → place x a < place x b
po_place x a b h = let at = in_po x a b h in at.forward

pub po_trans : (x : PreExecution) (a b c : ℕ) → po x a b ≡ true → po x b c ≡ true → po x a c ≡ true
po_trans x a b c h k =
    let low = po_place x a b h in
    let high = po_place x b c k in
    po_from x a c
    (subst (λ o. is_same (operation x a).hart o ≡ true) (same_is (operation x b).hart (operation x c).hart (po_same x b c k)) (po_same x a b h))
    (omega (arith, low, high))
