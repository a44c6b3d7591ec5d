-- A step of a run that accesses memory is an operation.
use Rattle.std.proofs.Common.{◌≡◌, ℕ, zero, suc, ◌+◌, ◌<◌, List, [], ◌∷◌, ◌++◌, length, map, Bool, true, cond, Some, is_some, sym, ap, subst, ◌∙◌, inl, inr, arith}
use Rattle.std.specs.Prelude.{slice_get, filter}
use Rattle.std.specs.List.{enumerate_from, flat_map}
use Rattle.std.proofs.lemmas.Bool.{cases_Bool}
use Rattle.std.proofs.lemmas.Option.{slice_get-get_or, slice_get_within, get_or_from_slice_get}
use Rattle.std.proofs.lemmas.List.Concat.{flat_map-cons}
use Rattle.fs_model.specs.declared.operation.Operation.{Operation}
use Rattle.fs_model.specs.declared.step.Step.{Step}
use Rattle.fs_model.specs.Operations.{PreExecution, access_of, accesses_of, accesses, operations, operation, nothing, steps_of}

got_left : {A : Type 0} (xs ys : List A) (a : ℕ) (o : A) → slice_get xs a ≡ Some o → slice_get (xs ++ ys) a ≡ Some o
got_left [] ys a o e = absurd (cc)
got_left (x ∷ xs) ys zero o e = e
got_left (x ∷ xs) ys (suc a) o e = got_left xs ys a o e

got_right : {A : Type 0} (xs ys : List A) (a : ℕ) (o : A) → slice_get ys a ≡ Some o → (b : ℕ) × (slice_get (xs ++ ys) b ≡ Some o)
got_right [] ys a o e = (a, e)
got_right (x ∷ xs) ys a o e = let rest = got_right xs ys a o e in (suc rest.0, rest.1)

-- ---- of one hart

abbrev accesses_from : ℕ → ℕ → List Step → List Operation
accesses_from h m steps = map (access_of h) (filter (λ numbered. is_some numbered.1.address) (enumerate_from m steps))

abbrev with_first : ℕ → ℕ → Step → List Step → Bool → List Operation
with_first h m s ss b = map (access_of h)
    (cond b ((m, s) ∷ filter (λ numbered. is_some numbered.1.address) (enumerate_from (m + 1) ss))
    (filter (λ numbered. is_some numbered.1.address) (enumerate_from (m + 1) ss)))

hart_has : (h m : ℕ) (steps : List Step) (i : ℕ) (u : Step) → slice_get steps i ≡ Some u → is_some u.address ≡ true
    → (a : ℕ) × (slice_get (accesses_from h m steps) a ≡ Some (access_of h (m + i, u)))
hart_has h m [] i u e b = absurd (cc)
hart_has h m (s ∷ ss) zero u e b =
    let both : Some s ≡ Some u = e in
    let one : s ≡ u = cc in
    let here : is_some s.address ≡ true = subst (λ (v : Step). is_some v.address ≡ true) (sym one) b in
    let at : m ≡ m + 0 = omega arith in (
      0,
      subst (λ c. slice_get (with_first h m s ss c) 0 ≡ Some (access_of h (m + 0, u))) (sym here)
          (ap (λ k. Some (access_of h (k, s))) at ∙ ap (λ v. Some (access_of h (m + 0, v))) one),
    )
hart_has h m (s ∷ ss) (suc i) u e b =
    let rest = hart_has h (m + 1) ss i u e b in
    let at : m + 1 + i ≡ m + suc i = omega arith in
    let there : slice_get (accesses_from h (m + 1) ss) rest.0 ≡ Some (access_of h (m + suc i, u)) = rest.1 ∙ ap (λ k. Some (access_of h (k, u))) at in
    elim (cases_Bool (is_some s.address)) [
      | inl c ↦ (suc rest.0, subst (λ b'. slice_get (with_first h m s ss b') (suc rest.0) ≡ Some (access_of h (m + suc i, u))) (sym c) there)
      | inr c ↦ (rest.0, subst (λ b'. slice_get (with_first h m s ss b') rest.0 ≡ Some (access_of h (m + suc i, u))) (sym c) there)
    ]

-- ---- of all harts

all_have : (first : ℕ) (traces : List (List Step)) (k : ℕ) (steps : List Step) (i : ℕ) (u : Step) → slice_get traces k ≡ Some steps
    → slice_get steps i ≡ Some u → is_some u.address ≡ true
    → (a : ℕ) × (slice_get (flat_map accesses_of (enumerate_from first traces)) a ≡ Some (access_of (first + k) (i, u)))
all_have first [] k steps i u e d b = absurd (cc)
all_have first (ss ∷ traces) zero steps i u e d b =
    let both : Some ss ≡ Some steps = e in
    let one : ss ≡ steps = cc in
    let mine = hart_has first 0 ss i u (ap (λ xs. slice_get xs i) one ∙ d) b in
    let named : access_of first (0 + i, u) ≡ access_of (first + 0) (i, u) = ap (λ k. access_of first (k, u)) (let q : 0 + i ≡ i = omega arith in q)
    ∙ ap (λ h. access_of h (i, u)) (let q : first ≡ first + 0 = omega arith in q) in (
      mine.0,
      ap (λ os. slice_get os mine.0) (flat_map-cons accesses_of (first, ss) (enumerate_from (first + 1) traces))
          ∙ got_left (accesses_of (first, ss)) _ mine.0 _ mine.1 ∙ ap (λ o. Some o) named,
    )
all_have first (ss ∷ traces) (suc k) steps i u e d b =
    let rest = all_have (first + 1) traces k steps i u e d b in
    let at : first + 1 + k ≡ first + suc k = omega arith in
    let there = got_right (accesses_of (first, ss)) _ rest.0 _ rest.1 in (
      there.0,
      ap (λ os. slice_get os there.0) (flat_map-cons accesses_of (first, ss) (enumerate_from (first + 1) traces))
          ∙ there.1 ∙ ap (λ h. Some (access_of h (i, u))) at,
    )

pub operation_of : (x : PreExecution) (hart i : ℕ) (u : Step) → hart < length x.traces → slice_get (steps_of x.traces hart) i ≡ Some u
    → is_some u.address ≡ true → (a : ℕ) × (a < length (accesses x)) × (operation x a ≡ access_of hart (i, u))
operation_of x hart i u low e b =
    let found = all_have 0 x.traces hart (steps_of x.traces hart) i u (slice_get-get_or x.traces hart [] low) e b in
    let at : 0 + hart ≡ hart = omega arith in
    let here : slice_get (accesses x) found.0 ≡ Some (access_of hart (i, u)) = found.1 ∙ ap (λ h. Some (access_of h (i, u))) at in (
      found.0,
      slice_get_within (accesses x) found.0 _ here,
      get_or_from_slice_get (operations x) found.0 _ nothing (got_left (accesses x) _ found.0 _ here),
    )
