-- A test has one list of each hart's runs: the order of choices is asymmetric, so two rising lists with the same
-- members are one.
use Rattle.std.proofs.Common.{◌≡◌, ℕ, zero, suc, ◌<◌, ◌⊎◌, List, [], ◌∷◌, length, refl, sym, ap₂, subst, ◌∙◌, arith, inl, inr}
use Rattle.std.specs.List.{AllPairs, Contains, slice_index_or}
use Rattle.std.proofs.Math.Path.{fun_ext}
use Rattle.std.proofs.lemmas.Bool.{cases_lt}
use Rattle.fs_model.specs.declared.test.Test.{Test}
use Rattle.fs_model.specs.declared.step.Step.{Step}
use Rattle.fs_model.specs.Choices.{choices_of, ComesBefore}
use Rattle.fs_model.specs.Values.{AreAllRuns}
use Rattle.fs_model.proofs.ChoiceOrder.{not_both}
use Rattle.fs_cert_evidence.specs.Trees.{AreItsRuns}

-- ---- rising lists

contains_first : {A : Type 0} (x : A) (xs : List A) → Contains (x ∷ xs) x
contains_first x xs = (0, omega arith, refl)

contains_later : {A : Type 0} (x y : A) (xs : List A) → Contains xs y → Contains (x ∷ xs) y
contains_later x y xs h = let low = h.1 in (suc h.0, omega (arith, low), h.2)

contains_none : {A : Type 0} (y : A) → Contains [] y → ⊥
contains_none y h = let low = h.1 in absurd (omega (arith, low))

contained_at : {A : Type 0} (x y : A) (xs : List A) (k : ℕ) → k < length (x ∷ xs) → slice_index_or (x ∷ xs) k y ≡ y → (y ≡ x) ⊎ Contains xs y
contained_at x y xs zero low e = inl (sym e)
contained_at x y xs (suc k) low e = inr (k, omega (arith, low), e)

contained : {A : Type 0} (x y : A) (xs : List A) → Contains (x ∷ xs) y → (y ≡ x) ⊎ Contains xs y
contained x y xs h = contained_at x y xs h.0 h.1 h.2

module _ {A : Type 0} (R : A → A → Type 0) (never : (x y : A) → R x y → R y x → ⊥) where
  first_related : (x y : A) (xs : List A) → AllPairs R (x ∷ xs) → Contains xs y → R x y
  first_related x y xs h in_xs = let low = in_xs.1 in subst (R x) in_xs.2 (h 0 (suc in_xs.0) y (omega arith) (omega (arith, low)))

  rest_related : (x : A) (xs : List A) → AllPairs R (x ∷ xs) → AllPairs R xs
  rest_related x xs h = λ i j d before within. h (suc i) (suc j) d (omega (arith, before)) (omega (arith, within))

  same_first : (x y : A) (xs ys : List A) → AllPairs R (x ∷ xs) → AllPairs R (y ∷ ys) → Contains (y ∷ ys) x → Contains (x ∷ xs) y → x ≡ y
  same_first x y xs ys h k in_ys in_xs = elim (contained y x ys in_ys) [
    | inl same ↦ same
    | inr later ↦ elim (contained x y xs in_xs) [
      | inl same ↦ sym same
      | inr further ↦ absurd (never x y (first_related x y xs h further) (first_related y x ys k later))
    ]
  ]

  rest_contained : (x y z : A) (xs ys : List A) → AllPairs R (x ∷ xs) → x ≡ y → Contains (y ∷ ys) z → Contains xs z → Contains ys z
  rest_contained x y z xs ys h same in_ys in_xs = elim (contained y z ys in_ys) [
    | inl first ↦ (let is : z ≡ x = first ∙ sym same in let related = subst (R x) is (first_related x z xs h in_xs) in absurd (never x x related related))
    | inr later ↦ later
  ]

  pub same_list : (xs ys : List A) → AllPairs R xs → AllPairs R ys → ((z : A) → Contains xs z → Contains ys z) → ((z : A) → Contains ys z → Contains xs z) → xs ≡ ys
  same_list [] [] h k to from = refl
  same_list [] (y ∷ ys) h k to from = absurd (contains_none y (from y (contains_first y ys)))
  same_list (x ∷ xs) [] h k to from = absurd (contains_none x (to x (contains_first x xs)))
  same_list (x ∷ xs) (y ∷ ys) h k to from =
      let first : x ≡ y = same_first x y xs ys h k (to x (contains_first x xs)) (from y (contains_first y ys)) in
      ap₂ (λ z zs. z ∷ zs) first
      (same_list xs ys (rest_related x xs h) (rest_related y ys k)
      (λ z there. rest_contained x y z xs ys h first (to z (contains_later x z xs there)) there)
      (λ z there. rest_contained y x z ys xs k (sym first) (from z (contains_later y z ys there)) there))

-- ---- the runs of the harts

one_list : (t : Test) (hart : ℕ) (runs others : List (List Step)) → AreAllRuns t hart runs → AreAllRuns t hart others
    → runs ≡ others
one_list t hart runs others left right =
    same_list (λ a b. ComesBefore (choices_of a) (choices_of b)) (λ a b. not_both (choices_of a) (choices_of b))
    runs others left.rising right.rising
    (λ steps there. (right.exact steps).1 ((left.exact steps).0 there))
    (λ steps there. (left.exact steps).1 ((right.exact steps).0 there))

pub one_family : (t : Test) (runs others : ℕ → List (List Step)) → AreItsRuns t runs → AreItsRuns t others
    → runs ≡ others
one_family t runs others left right = fun_ext of
  where
    of : (hart : ℕ) → runs hart ≡ others hart
    of hart = elim (cases_lt hart (length t.codes)) [
      | inl low ↦ one_list t hart (runs hart) (others hart) (left.all hart low) (right.all hart low)
      | inr high ↦ left.others hart high ∙ sym (right.others hart high)
    ]
