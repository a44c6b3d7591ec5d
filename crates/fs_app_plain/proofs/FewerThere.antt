-- Numbers and lists without a part in the middle: where what stays was.
use Rattle.std.proofs.Common.{◌≡◌, ℕ, ◌+◌, ◌-◌, ◌<◌, ◌≤◌, inl, inr, nat_lt, List, ◌++◌, length, map, get_or, if◌then◌else◌, refl, ap, sym, ◌∙◌, arith}
use Rattle.std.proofs.lemmas.Bool.{cases_lt, lt-ltb, le-ltb}
use Rattle.std.proofs.lemmas.List.{get_or_append_left, get_or-append_right}
use Rattle.std.proofs.Math.ListN.{get_or-map}
use Rattle.fs_app_plain.proofs.Shortened.{there}

-- ---- numbers

module _ (from count : ℕ) where
  pub there_low : (a : ℕ) → a < from → there from count a ≡ a
  there_low a low = ap (λ c. if c then a else a + count) (lt-ltb a from low)

  pub there_high : (a : ℕ) → from ≤ a → there from count a ≡ a + count
  there_high a high = ap (λ c. if c then a else a + count) (le-ltb a from high)

  there_rises : (i j : ℕ) → i < j → there from count i < there from count j
  there_rises i j low = elim (cases_lt i from) [
    | inl first ↦ (elim (cases_lt j from) [
      | inl second ↦ rw (there_low i first, there_low j second) low
      | inr second ↦ rw (there_low i first, there_high j second) (omega (arith, low))
    ])
    | inr first ↦ rw (there_high i first, there_high j (omega (arith, first, low))) (omega (arith, low))
  ]

  there_follows : (i j : ℕ) → i ≤ j → there from count i ≤ there from count j
  there_follows i j low = elim (cases_lt i j) [
    | inl less ↦ (let rise = there_rises i j less in omega (arith, rise))
    | inr past ↦ (
        let same : i ≡ j = omega (arith, low, past) in
        let there = ap (there from count) same in
        omega (arith, there))
  ]

  pub there_keeps : (i j : ℕ) → nat_lt (there from count i) (there from count j) ≡ nat_lt i j
  there_keeps i j = elim (cases_lt i j) [
    | inl low ↦ lt-ltb _ _ (there_rises i j low) ∙ sym (lt-ltb i j low)
    | inr past ↦ le-ltb _ _ (there_follows j i past) ∙ sym (le-ltb i j past)
  ]

-- ---- lists

module _ {X : Type 0} (f : X → X) (d : X) (stays : f d ≡ d) where
  index_moved : (xs : List X) (k : ℕ) → get_or (map f xs) k d ≡ f (get_or xs k d)
  index_moved xs k = ap (get_or (map f xs) k) (sym stays) ∙ get_or-map f xs k d

  -- what is at index a of the front and the rest is, as f makes it, in the front, the part and the rest
  pub index_there : (front part rest : List X) → front ≡ map f front → (a : ℕ)
      → get_or (front ++ (part ++ map f rest)) (there (length front) (length part) a) d ≡ f (get_or (front ++ rest) a d)
  index_there front part rest same a = elim (cases_lt a (length front)) [
    | inl low ↦ (
        ap (λ k. get_or (front ++ (part ++ map f rest)) k d) (there_low (length front) (length part) a low)
        ∙ get_or_append_left front (part ++ map f rest) d a low
        ∙ ap (λ xs. get_or xs a d) same
        ∙ index_moved front a
        ∙ ap f (sym (get_or_append_left front rest d a low)))
    | inr high ↦ (
        let k = a - length front in
        let first : a + length part - length front ≡ k + length part = omega (arith, high) in
        let second : k + length part - length part ≡ k = omega arith in
        ap (λ k. get_or (front ++ (part ++ map f rest)) k d) (there_high (length front) (length part) a high)
        ∙ get_or-append_right front (part ++ map f rest) (length front) (a + length part) d refl (omega (arith, high))
        ∙ ap (λ k. get_or (part ++ map f rest) k d) first
        ∙ get_or-append_right part (map f rest) (length part) (k + length part) d refl (omega arith)
        ∙ ap (λ k. get_or (map f rest) k d) second
        ∙ index_moved rest k
        ∙ ap f (sym (get_or-append_right front rest (length front) a d refl high)))
  ]

-- what is at an index in the part
pub index_in_part : {X : Type 0} (front part rest : List X) (d : X) (g : ℕ) → length front ≤ g
    → g < length front + length part
    → get_or (front ++ (part ++ rest)) g d ≡ get_or part (g - length front) d
index_in_part front part rest d g high low =
    get_or-append_right front (part ++ rest) (length front) g d refl high
    ∙ get_or_append_left part rest d (g - length front) (omega (arith, high, low))
