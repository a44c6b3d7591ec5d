-- Sets of numbers that grow, level by level, are at rest after as many levels as there are numbers.
use Rattle.std.proofs.Common.{◌≡◌, ◌⊎◌, ◌&&◌, ℕ, zero, suc, ◌+◌, ◌<◌, ◌≤◌, List, [], ◌∷◌, length, Bool, true, get_or, refl, sym, ap, ◌∙◌, inl, inr, arith}
use Rattle.std.specs.List.{count_by, range_with_len}
use Rattle.std.proofs.lemmas.Bool.{cases_Bool, cases_eq, false≢true, and_parts, and_from}
use Rattle.fs_model.specs.Numbers.{numbers_below}
use Rattle.fs_model.proofs.Counts.{one_if, one_if_le, count-cons}

pub count_le : {X : Type 0} (f g : X → Bool) → ((x : X) → f x ≡ true → g x ≡ true) → (xs : List X) → count_by f xs ≤ count_by g xs
count_le f g h [] = omega arith
count_le f g h (x ∷ xs) =
    let rest = count_le f g h xs in
    let a = count-cons f x xs in
    let b = count-cons g x xs in
    let c = one_if_le (f x) (g x) (h x) in
    omega (arith, rest, a, b, c)

-- all of a list that g has f has, or f has fewer
same_or_fewer : (f g : ℕ → Bool) → ((a : ℕ) → f a ≡ true → g a ≡ true) → (k n : ℕ)
    → ((a : ℕ) → k ≤ a → a < k + n → g a ≡ true → f a ≡ true) ⊎ (count_by f (range_with_len k n) < count_by g (range_with_len k n))
same_or_fewer f g h k zero = inl (λ a low high e. absurd (omega (arith, low, high)))
same_or_fewer f g h k (suc n) =
    let a = count-cons f k (range_with_len (k + 1) n) in
    let b = count-cons g k (range_with_len (k + 1) n) in
    let c = one_if_le (f k) (g k) (h k) in
    let d = count_le f g h (range_with_len (k + 1) n) in
    elim (same_or_fewer f g h (k + 1) n) [
      | inr fewer ↦ inr (omega (arith, a, b, c, fewer))
      | inl same ↦ elim (cases_Bool (g k)) [
        | inr not ↦ inl (λ m low high e. elim (cases_eq k m) [
          | inl here ↦ absurd (false≢true (sym not ∙ ap g here ∙ e))
          | inr there ↦ same m (omega (arith, low, there)) (omega (arith, high)) e
        ])
        | inl has ↦ elim (cases_Bool (f k)) [
          | inl both ↦ inl (λ m low high e. elim (cases_eq k m) [
            | inl here ↦ ap f (sym here) ∙ both
            | inr there ↦ same m (omega (arith, low, there)) (omega (arith, high)) e
          ])
          | inr new ↦ inr (let p = ap one_if has in let q = ap one_if new in omega (arith, a, b, d, p, q))
        ]
      ]
    ]

-- the items of a list that pass a test, counted by their numbers
pub count_numbers : {X : Type 0} (f : ℕ → Bool) (g : X → Bool) (d : X) (k : ℕ) (xs : List X)
    → ((i : ℕ) → i < length xs → f (k + i) ≡ g (get_or xs i d)) → count_by f (range_with_len k (length xs)) ≡ count_by g xs
count_numbers f g d k [] h = refl
count_numbers f g d k (x ∷ xs) h =
    let rest = count_numbers f g d (k + 1) xs (λ i low. ap f (let q : k + 1 + i ≡ k + suc i = omega arith in q) ∙ h (suc i) (omega (arith, low))) in
    let first : f k ≡ g x = ap f (let q : k ≡ k + 0 = omega arith in q) ∙ h 0 (omega arith) in
    let a = count-cons f k (range_with_len (k + 1) (length xs)) in
    let b = count-cons g x xs in
    let c = ap one_if first in
    omega (arith, rest, a, b, c)

module _ (m : ℕ) (store : ℕ → Bool) (level : ℕ → ℕ → Bool) (grows : (n a : ℕ) → level n a ≡ true → level (suc n) a ≡ true) where
  abbrev has : ℕ → ℕ → Bool
  has n a = store a && level n a

  abbrev count : ℕ → ℕ
  count n = count_by (has n) (numbers_below m)

  abbrev pub total : ℕ
  total = count_by store (numbers_below m)

  -- one more level has no more of these numbers
  abbrev pub IsAtRest : ℕ → Type 0
  IsAtRest n = (a : ℕ) → a < m → store a ≡ true → level (suc n) a ≡ true → level n a ≡ true

  has_grows : (n a : ℕ) → has n a ≡ true → has (suc n) a ≡ true
  has_grows n a h = let parts = and_parts _ _ h in and_from _ _ parts.0 (grows n a parts.1)

  rests_or_grows : (n : ℕ) → IsAtRest n ⊎ (count n < count (suc n))
  rests_or_grows n = elim (same_or_fewer (has n) (has (suc n)) (has_grows n) 0 m) [
    | inl same ↦ inl (λ a low s l. (and_parts _ _ (same a (omega arith) (omega (arith, low)) (and_from _ _ s l))).1)
    | inr fewer ↦ inr fewer
  ]

  so_far : (n : ℕ) → ((k : ℕ) × (k ≤ n) × IsAtRest k) ⊎ (n ≤ count n)
  so_far zero = inr (omega arith)
  so_far (suc n) = elim (so_far n) [
    | inl rest ↦ inl (rest.0, (let low = rest.1 in omega (arith, low)), rest.2)
    | inr many ↦ elim (rests_or_grows n) [
      | inl rest ↦ inl (n, omega arith, rest)
      | inr more ↦ inr (omega (arith, many, more))
    ]
  ]

  pub at_rest : (k : ℕ) × (k ≤ total) × IsAtRest k
  at_rest = elim (so_far total) [
    | inl rest ↦ rest
    | inr many ↦ elim (rests_or_grows total) [
      | inl rest ↦ (total, omega arith, rest)
      | inr more ↦ (
          let most : count (suc total) ≤ total = count_le (has (suc total)) store (λ a h. (and_parts _ _ h).0) (numbers_below m) in
          absurd (omega (arith, many, more, most)))
    ]
  ]
