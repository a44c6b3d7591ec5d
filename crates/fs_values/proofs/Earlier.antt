-- The place of a number in a list that has each once.
use Rattle.std.proofs.Common.{◌≡◌, ◌==◌, ℕ, suc, ◌<◌, List, [], ◌∷◌, true, if◌then◌else◌, sym, ap, ◌∙◌, inl, inr, arith}
use Rattle.std.proofs.lemmas.Bool.{cases_eq, eq-eqb, ne_eqb, false≢true}
use Rattle.fs_model.specs.Numbers.{has_number, stands_before}
use Rattle.fs_model.proofs.ListedNumbers.{AreOnce}
use Rattle.fs_model.proofs.NumberOrders.{before-here, before-later, before-second}

abbrev pub first_at : List ℕ → ℕ → ℕ
first_at [] a = 0
first_at (n ∷ ns) a = if n == a then 0 else suc (first_at ns a)

first_here : (n : ℕ) (ns : List ℕ) (a : ℕ) → n ≡ a → first_at (n ∷ ns) a ≡ 0
first_here n ns a e = ap (λ t. if t then 0 else suc (first_at ns a)) (eq-eqb n a e)

first_later : (n : ℕ) (ns : List ℕ) (a : ℕ) → (n ≡ a → ⊥) → first_at (n ∷ ns) a ≡ suc (first_at ns a)
first_later n ns a e = ap (λ t. if t then 0 else suc (first_at ns a)) (ne_eqb n a e)

-- the earlier one has the lesser place
pub earlier : (ns : List ℕ) → AreOnce ns → (a b : ℕ) → stands_before ns a b ≡ true → first_at ns a < first_at ns b
earlier [] once a b h = absurd (false≢true h)
earlier (n ∷ ns) once a b h = elim (cases_eq n a) [
  | inl e ↦ (
      let there = sym (before-here n ns a b e) ∙ h in
      let first = first_here n ns a e in
      let second = first_later n ns b (λ q. once.0 (ap (has_number ns) q ∙ there)) in
      omega (arith, first, second))
  | inr e ↦ (
      let there = sym (before-later n ns a b e) ∙ h in
      let rest = earlier ns once.1 a b there in
      let has = before-second ns a b there in
      let first = first_later n ns a e in
      let second = first_later n ns b (λ q. once.0 (ap (has_number ns) q ∙ has)) in
      omega (arith, rest, first, second))
]
