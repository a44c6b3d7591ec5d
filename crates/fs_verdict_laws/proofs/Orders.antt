-- The first number of an order, and orders that are the same.
use Rattle.std.proofs.Common.{◌≡◌, ℕ, ◌⊎◌, inl, inr, true, Some, List, [], ◌∷◌, refl, sym, ap, subst, ◌∙◌}
use Rattle.std.specs.Prelude.{slice_get}
use Rattle.std.proofs.lemmas.Bool.{false≢true, cases_eq}
use Rattle.fs_model.specs.Numbers.{has_number, stands_before}
use Rattle.fs_model.proofs.ListedNumbers.{AreOnce, has-here, has-later, has-cases}
use Rattle.fs_model.proofs.NumberOrders.{before-here, before-later, before-first, before-second}

pub first_is : (ns : List ℕ) (s : ℕ) → AreOnce ns → has_number ns s ≡ true
    → ((m : ℕ) → has_number ns m ≡ true → (m ≡ s) ⊎ (stands_before ns s m ≡ true)) → slice_get ns 0 ≡ Some s
first_is [] s once there first = absurd (false≢true there)
first_is (n ∷ ns) s once there first = elim (first n (has-here n ns n refl)) [
  | inl same ↦ ap Some same
  | inr before ↦ (elim (cases_eq n s) [
    | inl same ↦ ap Some same
    | inr other ↦ absurd (once.0 (before-second ns s n (sym (before-later n ns s n other) ∙ before)))
  ])
]

-- nothing stands before the first
pub none_earlier : (ns : List ℕ) (s m : ℕ) → AreOnce ns → slice_get ns 0 ≡ Some s → stands_before ns m s ≡ true → ⊥
none_earlier [] s m once e before = false≢true before
none_earlier (n ∷ ns) s m once e before =
    let f : Some n ≡ Some s = e in
    let same : n ≡ s = cc in
    once.0 (subst (λ (z : ℕ). has_number ns z ≡ true) (sym same) (elim (cases_eq n m) [
      | inl here ↦ sym (before-here n ns m s here) ∙ before
      | inr other ↦ before-second ns m s (sym (before-later n ns m s other) ∙ before)
    ]))

-- two lists with the same numbers in the same order
pub same_list : (xs ys : List ℕ) → AreOnce xs → AreOnce ys → ((a : ℕ) → has_number xs a ≡ true → has_number ys a ≡ true)
    → ((a : ℕ) → has_number ys a ≡ true → has_number xs a ≡ true)
    → ((a b : ℕ) → stands_before xs a b ≡ true → stands_before ys a b ≡ true) → xs ≡ ys
same_list [] [] once other there back forward = refl
same_list [] (y ∷ ys) once other there back forward = absurd (false≢true (back y (has-here y ys y refl)))
same_list (x ∷ xs) [] once other there back forward = absurd (false≢true (there x (has-here x xs x refl)))
same_list (x ∷ xs) (y ∷ ys) once other there back forward =
    let same : x ≡ y = elim (cases_eq x y) [
      | inl e ↦ e
      | inr ne ↦ absurd (
          let later : has_number xs y ≡ true = elim (has-cases x xs y (back y (has-here y ys y refl))) [
            | inl e ↦ absurd (ne e)
            | inr has ↦ has
          ] in
          none_earlier (y ∷ ys) y x other refl (forward x y (before-here x xs x y refl ∙ later)))
    ] in
    let rest : xs ≡ ys = same_list xs ys once.1 other.1
    (λ a has. elim (has-cases y ys a (there a (has-later x xs a has))) [
      | inl e ↦ absurd (once.0 (subst (λ (z : ℕ). has_number xs z ≡ true) (sym (same ∙ e)) has))
      | inr later ↦ later
    ])
    (λ a has. elim (has-cases x xs a (back a (has-later y ys a has))) [
      | inl e ↦ absurd (other.0 (subst (λ (z : ℕ). has_number ys z ≡ true) (sym e ∙ same) has))
      | inr later ↦ later
    ])
    (λ a b before.
    let apart : x ≡ a → ⊥ = λ e. once.0 (subst (λ (z : ℕ). has_number xs z ≡ true) (sym e) (before-first xs a b before)) in
    sym (before-later y ys a b (λ e. apart (same ∙ e))) ∙ forward a b (before-later x xs a b apart ∙ before)) in
    cc
