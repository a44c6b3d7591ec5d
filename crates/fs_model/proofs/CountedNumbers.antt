-- A list that is as long as another one, which has each number once, and has all its numbers, is that list in some
-- order.
use Rattle.std.proofs.Common.{◌≡◌, ℕ, ◌≤◌, inl, inr, true, List, [], ◌∷◌, ◌++◌, length, refl, sym, ap, subst, ◌∙◌, arith, append_assoc}
use Rattle.std.proofs.lemmas.Bool.{false≢true, cases_Bool, cases_eq, or_cases, or_left, or_right}
use Rattle.std.proofs.lemmas.List.{length-append}
use Rattle.fs_model.specs.Numbers.{has_number}
use Rattle.fs_model.proofs.ListedNumbers.{AreOnce, has-here, has-later, has-cases, has-append, split_at}
use Rattle.fs_model.proofs.Pigeonhole.{IsAmong, Differ, none_differ, more_differ, no_more}

among : (ns : List ℕ) (a : ℕ) → has_number ns a ≡ true → IsAmong ns a
among [] a there = absurd (false≢true there)
among (n ∷ ns) a there = elim (has-cases n ns a there) [
  | inl same ↦ inl (sym same)
  | inr later ↦ inr (among ns a later)
]

has : (ns : List ℕ) (a : ℕ) → IsAmong ns a → has_number ns a ≡ true
has [] a p = absurd p
has (n ∷ ns) a p = elim p [
  | inl same ↦ has-here n ns a (sym same)
  | inr later ↦ has-later n ns a (has ns a later)
]

differ : (ns : List ℕ) → AreOnce ns → Differ ns
differ [] once = none_differ
differ (n ∷ ns) once =
    more_differ n ns (λ a there same. once.0 (subst (λ (z : ℕ). has_number ns z ≡ true) (sym same) (has ns a there))) (differ ns once.1)

-- another number stays
kept : (front back : List ℕ) (c a : ℕ) → (c ≡ a → ⊥) → has_number (front ++ c ∷ back) a ≡ true → has_number (front ++ back) a ≡ true
kept front back c a other has = has-append front back a ∙ (elim (or_cases _ _ (sym (has-append front (c ∷ back) a) ∙ has)) [
  | inl first ↦ or_left _ _ first
  | inr second ↦ (elim (has-cases c back a second) [
    | inl same ↦ absurd (other same)
    | inr later ↦ or_right _ _ later
  ])
])

-- the second list has all numbers of the first
abbrev pub IsWithin : List ℕ → List ℕ → Type 0
IsWithin zs ys = (a : ℕ) → has_number zs a ≡ true → has_number ys a ≡ true

pub no_longer : (zs ys : List ℕ) → AreOnce zs → IsWithin zs ys → length zs ≤ length ys
no_longer zs ys once within = no_more zs ys (differ zs once) (λ a there. among ys a (within a (has zs a there)))

pub as_long : (zs ys : List ℕ) → AreOnce zs → AreOnce ys → IsWithin zs ys → IsWithin ys zs → length zs ≡ length ys
as_long zs ys once other within back =
    let low = no_longer zs ys once within in
    let high = no_longer ys zs other back in
    omega (arith, low, high)

module _ (zs ys : List ℕ) (once : AreOnce zs) (within : IsWithin zs ys) (long : length ys ≡ length zs) where
  none_spare : (front back : List ℕ) (c : ℕ) → ys ≡ front ++ c ∷ back → (has_number zs c ≡ true → has_number (front ++ back) c ≡ true) → ⊥
  none_spare front back c e spare =
      let fits = no_longer zs (front ++ back) once (λ a there. elim (cases_eq c a) [
        | inl same ↦ subst (λ (n : ℕ). has_number (front ++ back) n ≡ true) same (spare (subst (λ (n : ℕ). has_number zs n ≡ true) (sym same) there))
        | inr other ↦ kept front back c a other (ap (λ ns. has_number ns a) (sym e) ∙ within a there)
      ]) in
      omega (arith, fits, long, ap length e, length-append front back, length-append front (c ∷ back))

  pub no_others : IsWithin ys zs
  no_others c there = elim (cases_Bool (has_number zs c)) [
    | inl has ↦ has
    | inr lacks ↦ (
        let parts = split_at ys c there in
        absurd (none_spare parts.0 parts.1 c parts.2 (λ has. absurd (false≢true (sym lacks ∙ has)))))
  ]

  once_from : (front rest : List ℕ) → ys ≡ front ++ rest → AreOnce rest
  once_from front [] e = tt
  once_from front (c ∷ back) e = (
    (λ there. none_spare front back c e (λ has. has-append front back c ∙ or_right _ _ there)),
    once_from (front ++ c ∷ []) back (e ∙ sym (append_assoc front (c ∷ []) back)),
  )

  pub each_once : AreOnce ys
  each_once = once_from [] ys refl
