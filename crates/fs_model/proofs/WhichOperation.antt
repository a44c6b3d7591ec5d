-- An operation is a hart's or an initial store: what its number says, and what it has that the others have not.
use Rattle.std.proofs.Common.{◌≡◌, ℕ, zero, suc, ◌+◌, ◌-◌, ◌<◌, ◌≤◌, inl, inr, true, None, Some, is_some, List, [], ◌∷◌, length, map, get_or, refl, ◌∙◌, ap, subst, arith}
use Rattle.std.specs.Prelude.{slice_get}
use Rattle.std.specs.List.{enumerate_from}
use Rattle.std.proofs.lemmas.Bool.{cases_lt}
use Rattle.std.proofs.lemmas.List.{get_or-append_right, length-append, length-map}
use Rattle.std.proofs.lemmas.List.FromFn.{length-enumerate_from}
use Rattle.fs_model.specs.declared.step.Step.{Step}
use Rattle.fs_model.specs.Operations.{PreExecution, access_of, accesses, initial_store, operations, operation, nothing, place, steps_of, is_load, is_store}
use Rattle.fs_model.proofs.Ranges.{past_last}
use Rattle.fs_model.proofs.OptionalNumbers.{one_value, none_there, not_none}
use Rattle.fs_model.proofs.HartOperations.{access_is}

-- ---- initial stores

initial_at : (h : ℕ) (words : List ℕ) (k : ℕ) → k < length words
    → get_or (map initial_store (enumerate_from h words)) k nothing ≡ initial_store (h + k, get_or words k 0)
initial_at h [] k low = absurd (omega (arith, low))
initial_at h (w ∷ words) zero low = ap (λ n. initial_store (n, w)) (omega arith)
initial_at h (w ∷ words) (suc k) low =
    initial_at (h + 1) words k (omega (arith, low)) ∙ ap (λ n. initial_store (n, get_or words k 0)) (omega arith)

pub initial_is : (x : PreExecution) (a k : ℕ) → a ≡ length (accesses x) + k → k < length x.words
    → operation x a ≡ initial_store (k, get_or x.words k 0)
initial_is x a k e low =
    let at : a - length (accesses x) ≡ k = omega (arith, e) in
    get_or-append_right (accesses x) (map initial_store (enumerate_from 0 x.words)) (length (accesses x)) a nothing refl (omega (arith, e))
    ∙ ap (λ j. get_or (map initial_store (enumerate_from 0 x.words)) j nothing) at
    ∙ initial_at 0 x.words k low
    ∙ ap (λ n. initial_store (n, get_or x.words k 0)) (omega arith)

pub length_operations : (x : PreExecution) → length (operations x) ≡ length (accesses x) + length x.words
length_operations x =
    length-append (accesses x) (map initial_store (enumerate_from 0 x.words))
    ∙ ap (λ n. length (accesses x) + n) (length-map (enumerate_from 0 x.words) initial_store ∙ length-enumerate_from 0 x.words)

-- an operation of the harts, an initial store, or nothing
pub data Which (x : PreExecution) (a : ℕ) : Type 0 where
  Access : (low : a < length (accesses x)) → Which x a
  Initial : (k : ℕ) (low : k < length x.words) (at : a ≡ length (accesses x) + k) (is : operation x a ≡ initial_store (k, get_or x.words k 0)) → Which x a
  Past : (past : length (operations x) ≤ a) (is : operation x a ≡ nothing) → Which x a

pub which : (x : PreExecution) (a : ℕ) → Which x a
which x a = elim (cases_lt a (length (accesses x))) [
  | inl low ↦ Access low
  | inr past ↦ (elim (cases_lt a (length (operations x))) [
    | inl low ↦ (
        let long = length_operations x in
        let k = a - length (accesses x) in
        let at : a ≡ length (accesses x) + k = omega (arith, past) in
        let few : k < length x.words = omega (arith, low, long, at) in
        Initial k few at (initial_is x a k at few))
    | inr high ↦ Past high (past_last x a high)
  ])
]

-- ---- what they have

pub store_there : (x : PreExecution) (a : ℕ) → is_store x a ≡ true → a < length (operations x)
store_there x a h = elim (cases_lt a (length (operations x))) [
  | inl low ↦ low
  | inr past ↦ absurd (none_there (operation x a).stored (ap (λ o. o.stored) (past_last x a past)) h)
]

pub load_access : (x : PreExecution) (a : ℕ) → is_load x a ≡ true → a < length (accesses x)
load_access x a h = elim (which x a) [
  | Access low ↦ low
  | Initial k low at is ↦ absurd (none_there (operation x a).loaded (ap (λ o. o.loaded) is) h)
  | Past past is ↦ absurd (none_there (operation x a).loaded (ap (λ o. o.loaded) is) h)
]

pub hart_access : (x : PreExecution) (a hart : ℕ) → (operation x a).hart ≡ Some hart → a < length (accesses x)
hart_access x a hart h = elim (which x a) [
  | Access low ↦ low
  | Initial k low at is ↦ absurd (not_none (operation x a).hart hart (ap (λ o. o.hart) is) h)
  | Past past is ↦ absurd (not_none (operation x a).hart hart (ap (λ o. o.hart) is) h)
]

-- past the operations of harts there is no hart and no loaded word
pub no_hart_past : (x : PreExecution) (a : ℕ) → length (accesses x) ≤ a → (operation x a).hart ≡ None
no_hart_past x a past = elim (which x a) [
  | Access low ↦ absurd (omega (arith, low, past))
  | Initial k low at is ↦ ap (λ o. o.hart) is
  | Past far is ↦ ap (λ o. o.hart) is
]

pub no_load_past : (x : PreExecution) (a : ℕ) → length (accesses x) ≤ a → (operation x a).loaded ≡ None
no_load_past x a past = elim (which x a) [
  | Access low ↦ absurd (omega (arith, low, past))
  | Initial k low at is ↦ ap (λ o. o.loaded) is
  | Past far is ↦ ap (λ o. o.loaded) is
]

-- ---- an operation of this hart is a step of its run

pub record IsOfHart (x : PreExecution) (a hart : ℕ) : Type 0 where
  pub numbered : a < length (accesses x)
  pub traced : hart < length x.traces
  pub step : Step
  pub there : slice_get (steps_of x.traces hart) (place x a) ≡ Some step
  pub accessing : is_some step.address ≡ true
  pub is : operation x a ≡ access_of hart (place x a, step)

pub of_hart : (x : PreExecution) (a hart : ℕ) → (operation x a).hart ≡ Some hart → IsOfHart x a hart
of_hart x a hart h =
    let numbered = hart_access x a hart h in
    let access = access_is x a numbered in
    let same : access.hart ≡ hart = one_value (operation x a).hart access.hart hart (ap (λ o. o.hart) access.is) h in
    record {
      numbered = numbered;
      traced = subst (λ (n : ℕ). n < length x.traces) same access.low;
      step = access.step;
      there = subst (λ (n : ℕ). slice_get (steps_of x.traces n) (place x a) ≡ Some access.step) same access.there;
      accessing = access.accessing;
      is = subst (λ (n : ℕ). operation x a ≡ access_of n (place x a, access.step)) same access.is;
    }
