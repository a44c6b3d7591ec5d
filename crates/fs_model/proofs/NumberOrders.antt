-- Lists that have each number once, as orders: which number stands before which.
use Rattle.std.proofs.Common.{◌≡◌, ℕ, ◌⊎◌, inl, inr, true, List, [], ◌∷◌, ◌++◌, refl, sym, subst, ◌∙◌}
use Rattle.std.proofs.lemmas.Bool.{false≢true, cases_eq, eq-eqb, ne_eqb, or_right}
use Rattle.fs_model.specs.Numbers.{has_number, stands_before}
use Rattle.fs_model.proofs.ListedNumbers.{AreOnce, has-here, has-later, has-cases, has-append}

pub before-here : (n : ℕ) (ns : List ℕ) (a b : ℕ) → n ≡ a → stands_before (n ∷ ns) a b ≡ has_number ns b
before-here n ns a b same = rw (eq-eqb n a same) refl

pub before-later : (n : ℕ) (ns : List ℕ) (a b : ℕ) → (n ≡ a → ⊥) → stands_before (n ∷ ns) a b ≡ stands_before ns a b
before-later n ns a b other = rw (ne_eqb n a other) refl

pub before-first : (ns : List ℕ) (a b : ℕ) → stands_before ns a b ≡ true → has_number ns a ≡ true
before-first [] a b before = before
before-first (n ∷ ns) a b before = elim (cases_eq n a) [
  | inl same ↦ has-here n ns a same
  | inr other ↦ has-later n ns a (before-first ns a b (sym (before-later n ns a b other) ∙ before))
]

pub before-second : (ns : List ℕ) (a b : ℕ) → stands_before ns a b ≡ true → has_number ns b ≡ true
before-second [] a b before = before
before-second (n ∷ ns) a b before = elim (cases_eq n a) [
  | inl same ↦ has-later n ns b (sym (before-here n ns a b same) ∙ before)
  | inr other ↦ has-later n ns b (before-second ns a b (sym (before-later n ns a b other) ∙ before))
]

pub not_itself : (ns : List ℕ) (a : ℕ) → AreOnce ns → stands_before ns a a ≡ true → ⊥
not_itself [] a once before = false≢true before
not_itself (n ∷ ns) a once before = elim (cases_eq n a) [
  | inl same ↦ once.0 (subst (λ (z : ℕ). has_number ns z ≡ true) (sym same) (sym (before-here n ns a a same) ∙ before))
  | inr other ↦ not_itself ns a once.1 (sym (before-later n ns a a other) ∙ before)
]

pub before_trans : (ns : List ℕ) (a b c : ℕ) → AreOnce ns → stands_before ns a b ≡ true → stands_before ns b c ≡ true
    → stands_before ns a c ≡ true
before_trans [] a b c once first second = first
before_trans (n ∷ ns) a b c once first second = elim (cases_eq n b) [
  | inl same ↦ absurd (elim (cases_eq n a) [
    | inl here ↦ once.0 (subst (λ (z : ℕ). has_number ns z ≡ true) (sym same) (sym (before-here n ns a b here) ∙ first))
    | inr other ↦ once.0 (subst (λ (z : ℕ). has_number ns z ≡ true) (sym same)
        (before-second ns a b (sym (before-later n ns a b other) ∙ first)))
  ])
  | inr apart ↦ (
      let later = sym (before-later n ns b c apart) ∙ second in
      elim (cases_eq n a) [
        | inl here ↦ before-here n ns a c here ∙ before-second ns b c later
        | inr other ↦ before-later n ns a c other
            ∙ before_trans ns a b c once.1 (sym (before-later n ns a b other) ∙ first) later
      ])
]

pub not_both : (ns : List ℕ) (a b : ℕ) → AreOnce ns → stands_before ns a b ≡ true → stands_before ns b a ≡ true → ⊥
not_both ns a b once first second = not_itself ns a once (before_trans ns a b a once first second)

pub either_way : (ns : List ℕ) (a b : ℕ) → has_number ns a ≡ true → has_number ns b ≡ true → (a ≡ b → ⊥)
    → (stands_before ns a b ≡ true) ⊎ (stands_before ns b a ≡ true)
either_way [] a b first second apart = absurd (false≢true first)
either_way (n ∷ ns) a b first second apart = elim (has-cases n ns a first) [
  | inl here ↦ (elim (has-cases n ns b second) [
    | inl same ↦ absurd (apart (sym here ∙ same))
    | inr later ↦ inl (before-here n ns a b here ∙ later)
  ])
  | inr there ↦ (elim (cases_eq n b) [
    | inl here ↦ inr (before-here n ns b a here ∙ there)
    | inr other ↦ (elim (has-cases n ns b second) [
      | inl same ↦ absurd (other same)
      | inr later ↦ (elim (cases_eq n a) [
        | inl here ↦ inl (before-here n ns a b here ∙ later)
        | inr away ↦ (elim (either_way ns a b there later apart) [
          | inl forward ↦ inl (before-later n ns a b away ∙ forward)
          | inr back ↦ inr (before-later n ns b a other ∙ back)
        ])
      ])
    ])
  ])
]

-- ---- two lists

-- what is in the first list stands before what is in the second
pub before-append : (xs ys : List ℕ) (a b : ℕ) → has_number xs a ≡ true → has_number ys b ≡ true
    → stands_before (xs ++ ys) a b ≡ true
before-append [] ys a b first second = absurd (false≢true first)
before-append (x ∷ xs) ys a b first second = elim (cases_eq x a) [
  | inl here ↦ before-here x (xs ++ ys) a b here ∙ has-append xs ys b ∙ or_right _ _ second
  | inr other ↦ (elim (has-cases x xs a first) [
    | inl same ↦ absurd (other same)
    | inr later ↦ before-later x (xs ++ ys) a b other ∙ before-append xs ys a b later second
  ])
]

-- what is not in the first list is ordered by the second
pub before-append_right : (xs ys : List ℕ) (a b : ℕ) → (has_number xs a ≡ true → ⊥) → stands_before ys a b ≡ true
    → stands_before (xs ++ ys) a b ≡ true
before-append_right [] ys a b out before = before
before-append_right (x ∷ xs) ys a b out before =
    before-later x (xs ++ ys) a b (λ same. out (has-here x xs a same))
    ∙ before-append_right xs ys a b (λ there. out (has-later x xs a there)) before
