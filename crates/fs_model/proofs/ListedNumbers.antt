-- Lists of numbers: which numbers are there, and whether each is there once.
use Rattle.std.proofs.Common.{◌≡◌, ℕ, zero, suc, ◌+◌, ◌<◌, ◌≤◌, ◌⊎◌, inl, inr, ◌==◌, Bool, true, false, ◌||◌, List, [], ◌∷◌, ◌++◌, refl, sym, ap, subst, ◌∙◌, arith}
use Rattle.std.specs.List.{list_all, list_any, range_with_len}
use Rattle.std.proofs.lemmas.Bool.{false≢true, cases_eq, eq-eqb, eqb-true, and_parts, and_from, or_cases, or_left, or_right}
use Rattle.fs_model.specs.Numbers.{has_number}

-- ---- one number

pub has-here : (n : ℕ) (ns : List ℕ) (a : ℕ) → n ≡ a → has_number (n ∷ ns) a ≡ true
has-here n ns a same = or_left _ _ (eq-eqb n a same)

pub has-later : (n : ℕ) (ns : List ℕ) (a : ℕ) → has_number ns a ≡ true → has_number (n ∷ ns) a ≡ true
has-later n ns a there = or_right _ _ there

pub has-cases : (n : ℕ) (ns : List ℕ) (a : ℕ) → has_number (n ∷ ns) a ≡ true → (n ≡ a) ⊎ (has_number ns a ≡ true)
has-cases n ns a there = elim (or_cases _ _ there) [
  | inl here ↦ inl (eqb-true n a here)
  | inr later ↦ inr later
]

pub has_number_any : (ns : List ℕ) (a : ℕ) → list_any (λ n. n == a) ns ≡ has_number ns a
has_number_any [] a = refl
has_number_any (n ∷ ns) a = ap (λ b. (n == a) || b) (has_number_any ns a)

pub split_at : (xs : List ℕ) (a : ℕ) → has_number xs a ≡ true → (front : List ℕ) × (back : List ℕ) × (xs ≡ front ++ a ∷ back)
split_at [] a has = absurd (false≢true has)
split_at (x ∷ xs) a has = elim (has-cases x xs a has) [
  | inl same ↦ ([], xs, ap (λ z. z ∷ xs) same)
  | inr later ↦ (let rest = split_at xs a later in (x ∷ rest.0, rest.1, ap (λ zs. x ∷ zs) rest.2))
]

-- ---- each number once

abbrev pub AreOnce : List ℕ → Type 0
AreOnce [] = Unit {0}
AreOnce (n ∷ ns) = (has_number ns n ≡ true → ⊥) × AreOnce ns

-- ---- two lists

pub has-append : (xs ys : List ℕ) (a : ℕ) → has_number (xs ++ ys) a ≡ (has_number xs a || has_number ys a)
has-append [] ys a = refl
has-append (x ∷ xs) ys a = ap (λ b. (x == a) || b) (has-append xs ys a) ∙ regroup (x == a) (has_number xs a) (has_number ys a)
  where
    regroup : (p q r : Bool) → (p || (q || r)) ≡ ((p || q) || r)
    regroup true q r = refl
    regroup false q r = refl

pub once-append : (xs ys : List ℕ) → AreOnce xs → AreOnce ys
    → ((a : ℕ) → has_number xs a ≡ true → has_number ys a ≡ true → ⊥) → AreOnce (xs ++ ys)
once-append [] ys first second apart = second
once-append (x ∷ xs) ys first second apart = (
  (λ there. elim (or_cases _ _ (sym (has-append xs ys x) ∙ there)) [
    | inl here ↦ first.0 here
    | inr later ↦ apart x (has-here x xs x refl) later
  ]),
  once-append xs ys first.1 second (λ a here later. apart a (has-later x xs a here) later),
)

-- what is in the first list isn't in the second
pub once_apart : (xs ys : List ℕ) (a : ℕ) → AreOnce (xs ++ ys) → has_number xs a ≡ true → has_number ys a ≡ true → ⊥
once_apart [] ys a once first second = false≢true first
once_apart (x ∷ xs) ys a once first second = elim (has-cases x xs a first) [
  | inl same ↦ once.0 (has-append xs ys x ∙ or_right (has_number xs x) _ (subst (λ (z : ℕ). has_number ys z ≡ true) (sym same) second))
  | inr later ↦ once_apart xs ys a once.1 later second
]

-- ---- ranges

pub has-range : (i n a : ℕ) → i ≤ a → a < i + n → has_number (range_with_len i n) a ≡ true
has-range i zero a low high = absurd (omega (arith, low, high))
has-range i (suc n) a low high = elim (cases_eq i a) [
  | inl same ↦ has-here i (range_with_len (i + 1) n) a same
  | inr other ↦ has-later i (range_with_len (i + 1) n) a (has-range (i + 1) n a (omega (arith, low, other)) (omega (arith, high)))
]

pub range-has : (i n a : ℕ) → has_number (range_with_len i n) a ≡ true → (i ≤ a) × (a < i + n)
range-has i zero a there = absurd (false≢true there)
range-has i (suc n) a there = elim (has-cases i (range_with_len (i + 1) n) a there) [
  | inl same ↦ (omega (arith, same), omega (arith, same))
  | inr later ↦ (let rest = range-has (i + 1) n a later in (omega (arith, rest.0), omega (arith, rest.1)))
]

pub once-range : (i n : ℕ) → AreOnce (range_with_len i n)
once-range i zero = tt
once-range i (suc n) = (
  (λ there. let rest = range-has (i + 1) n i there in omega (arith, rest.0)),
  once-range (i + 1) n,
)

-- ---- tests of each number

pub all_at : (f : ℕ → Bool) (ns : List ℕ) (a : ℕ) → list_all f ns ≡ true → has_number ns a ≡ true → f a ≡ true
all_at f [] a all there = absurd (false≢true there)
all_at f (n ∷ ns) a all there =
    let parts = and_parts (f n) (list_all f ns) all in
    elim (has-cases n ns a there) [
      | inl same ↦ subst (λ (z : ℕ). f z ≡ true) same parts.0
      | inr later ↦ all_at f ns a parts.1 later
    ]

pub all_from : (f : ℕ → Bool) (ns : List ℕ) → ((a : ℕ) → has_number ns a ≡ true → f a ≡ true) → list_all f ns ≡ true
all_from f [] each = refl
all_from f (n ∷ ns) each =
    and_from _ _ (each n (has-here n ns n refl)) (all_from f ns (λ a there. each a (has-later n ns a there)))
