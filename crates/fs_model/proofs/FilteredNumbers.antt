-- What a test keeps of a list of numbers, and in which order.
use Rattle.std.proofs.Common.{◌≡◌, ℕ, inl, inr, Bool, true, false, ◌&&◌, filter, List, [], ◌∷◌, refl, sym, subst, ◌∙◌}
use Rattle.std.specs.Prelude.{if◌then◌else◌}
use Rattle.std.proofs.lemmas.Bool.{cases_eq, eq-eqb, ne_eqb, and_parts, and_from, and_right}
use Rattle.fs_model.specs.Numbers.{has_number, stands_before}
use Rattle.fs_model.proofs.ListedNumbers.{AreOnce}

has-filter_at : (f : ℕ → Bool) (n : ℕ) (ns : List ℕ) (a : ℕ) (kept : Bool) → f n ≡ kept
    → has_number (filter f ns) a ≡ (has_number ns a && f a)
    → has_number (if kept then n ∷ filter f ns else filter f ns) a ≡ (has_number (n ∷ ns) a && f a)
has-filter_at f n ns a true e rest = elim (cases_eq n a) [
  | inl same ↦ rw (eq-eqb n a same) (sym (subst (λ (z : ℕ). f z ≡ true) same e))
  | inr other ↦ rw (ne_eqb n a other) rest
]
has-filter_at f n ns a false e rest = elim (cases_eq n a) [
  | inl same ↦ rest ∙ (let no = subst (λ (z : ℕ). f z ≡ false) same e in rw (eq-eqb n a same, no) (and_right (has_number ns a) false refl))
  | inr other ↦ rw (ne_eqb n a other) rest
]

has-filter : (f : ℕ → Bool) (ns : List ℕ) (a : ℕ) → has_number (filter f ns) a ≡ (has_number ns a && f a)
has-filter f [] a = refl
has-filter f (n ∷ ns) a = has-filter_at f n ns a (f n) refl (has-filter f ns a)

before-filter_at : (f : ℕ → Bool) (n : ℕ) (ns : List ℕ) (a b : ℕ) (kept : Bool) → f n ≡ kept
    → stands_before (filter f ns) a b ≡ (stands_before ns a b && (f a && f b))
    → stands_before (if kept then n ∷ filter f ns else filter f ns) a b ≡ (stands_before (n ∷ ns) a b && (f a && f b))
before-filter_at f n ns a b true e rest = elim (cases_eq n a) [
  | inl same ↦ (
      let yes = subst (λ (z : ℕ). f z ≡ true) same e in
      rw (eq-eqb n a same, yes) (has-filter f ns b))
  | inr other ↦ rw (ne_eqb n a other) rest
]
before-filter_at f n ns a b false e rest = elim (cases_eq n a) [
  | inl same ↦ (
      let no = subst (λ (z : ℕ). f z ≡ false) same e in
      rest ∙ rw (eq-eqb n a same, no) (and_right (stands_before ns a b) false refl ∙ sym (and_right (has_number ns b) false refl)))
  | inr other ↦ rw (ne_eqb n a other) rest
]

before-filter : (f : ℕ → Bool) (ns : List ℕ) (a b : ℕ)
    → stands_before (filter f ns) a b ≡ (stands_before ns a b && (f a && f b))
before-filter f [] a b = refl
before-filter f (n ∷ ns) a b = before-filter_at f n ns a b (f n) refl (before-filter f ns a b)

-- what is in a filtered list, and in which order
pub filter_has : (f : ℕ → Bool) (ns : List ℕ) (a : ℕ) → has_number (filter f ns) a ≡ true → (has_number ns a ≡ true) × (f a ≡ true)
filter_has f ns a there = and_parts (has_number ns a) (f a) (sym (has-filter f ns a) ∙ there)

pub in_filter : (f : ℕ → Bool) (ns : List ℕ) (a : ℕ) → has_number ns a ≡ true → f a ≡ true → has_number (filter f ns) a ≡ true
in_filter f ns a there passes = has-filter f ns a ∙ and_from (has_number ns a) (f a) there passes

pub before_in_filter : (f : ℕ → Bool) (ns : List ℕ) (a b : ℕ) → stands_before ns a b ≡ true → f a ≡ true → f b ≡ true
    → stands_before (filter f ns) a b ≡ true
before_in_filter f ns a b before first second =
    before-filter f ns a b ∙ and_from (stands_before ns a b) (f a && f b) before (and_from (f a) (f b) first second)

pub filter_before : (f : ℕ → Bool) (ns : List ℕ) (a b : ℕ) → stands_before (filter f ns) a b ≡ true
    → (stands_before ns a b ≡ true) × (f a ≡ true) × (f b ≡ true)
filter_before f ns a b before =
    let parts = and_parts (stands_before ns a b) (f a && f b) (sym (before-filter f ns a b) ∙ before) in
    let both = and_parts (f a) (f b) parts.1 in
    (parts.0, both.0, both.1)

pub once-filter : (f : ℕ → Bool) (ns : List ℕ) → AreOnce ns → AreOnce (filter f ns)
once-filter f [] once = tt
once-filter f (n ∷ ns) once = by_case (f n) (once-filter f ns once.1)
  where
    by_case : (kept : Bool) → AreOnce (filter f ns) → AreOnce (if kept then n ∷ filter f ns else filter f ns)
    by_case true rest = ((λ there. once.0 (and_parts _ _ (sym (has-filter f ns n) ∙ there)).0), rest)
    by_case false rest = rest
