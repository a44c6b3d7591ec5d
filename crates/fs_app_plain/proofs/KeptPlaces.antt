-- The steps of a list without a part in its middle stand in the whole list in their order, so what is tested of those
-- between two of them can be told there.
use Rattle.std.proofs.Common.{◌≡◌, ℕ, zero, suc, ◌+◌, ◌-◌, ◌<◌, ◌≤◌, ◌⊎◌, nat_lt, Bool, true, false, if◌then◌else◌, List, [], ◌∷◌, ◌++◌, length, refl, sym, ap, ◌∙◌, inl, inr, arith}
use Rattle.std.specs.Prelude.{option_map, unwrap_or, slice_get}
use Rattle.std.specs.List.{list_any}
use Rattle.std.proofs.lemmas.Bool.{cases_lt, lt-ltb, le-ltb, both_ways, false_from_ne_true}
use Rattle.fs_instr.specs.Roles.{nop}
use Rattle.fs_model.specs.declared.step.Step.{Step}
use Rattle.fs_model.specs.Operations.{between, instr_at}
use Rattle.fs_model.proofs.RangeTests.{any_from, any_to}
use Rattle.fs_app_plain.proofs.Cut.{whole, short, place_there}

-- ---- tests of the numbers between two

pub any_between_from : (f : ℕ → Bool) (i j : ℕ) → list_any f (between i j) ≡ true
    → (m : ℕ) × (i < m) × (m < j) × (f m ≡ true)
any_between_from f i j h =
    let m = any_from f (i + 1) (j - (i + 1)) h in
    (m.0, omega (arith, m.1), omega (arith, m.1, m.2), m.3)

pub any_between_to : (f : ℕ → Bool) (i j m : ℕ) → i < m → m < j → f m ≡ true → list_any f (between i j) ≡ true
any_between_to f i j m low high e = any_to f (i + 1) (j - (i + 1)) m (omega arith) (omega arith) e

pub none_between_from : (f : ℕ → Bool) (i j m : ℕ) → list_any f (between i j) ≡ false → i < m → m < j → f m ≡ false
none_between_from f i j m h low high = false_from_ne_true _ (λ e. both_ways _ h (any_between_to f i j m low high e))

pub none_between_to : (f : ℕ → Bool) (i j : ℕ) → ((m : ℕ) → i < m → m < j → f m ≡ false)
    → list_any f (between i j) ≡ false
none_between_to f i j h =
    false_from_ne_true _ (λ e. let m = any_between_from f i j e in both_ways _ (h m.0 m.1 m.2) m.3)

-- ---- what stands where in two lists that are joined

front : {X : Type 0} (xs ys : List X) (k : ℕ) → k < length xs → slice_get (xs ++ ys) k ≡ slice_get xs k
front [] ys k low = absurd (omega (arith, low))
front (x ∷ xs) ys zero low = refl
front (x ∷ xs) ys (suc k) low = front xs ys k (omega (arith, low))

back : {X : Type 0} (xs ys : List X) (k j : ℕ) → j ≡ k + length xs → slice_get (xs ++ ys) j ≡ slice_get ys k
back [] ys k j e = ap (slice_get ys) (omega (arith, e))
back (x ∷ xs) ys k zero e = absurd (omega (arith, e))
back (x ∷ xs) ys k (suc j) e = back xs ys k j (omega (arith, e))

-- the instruction of a step, if there is one
same_instr : (ss us : List Step) (i j : ℕ) → slice_get ss i ≡ slice_get us j → instr_at ss i ≡ instr_at us j
same_instr ss us i j e = ap (λ o. unwrap_or (option_map (λ (s : Step). s.instr) o) nop) e

module _ (before turn after : List Step) where
  abbrev to : ℕ → ℕ
  to = place_there before turn after

  place_low : (k : ℕ) → k < length before → to k ≡ k
  place_low k low = ap (λ b. if b then k else k + length turn) (lt-ltb k (length before) low)

  place_high : (k : ℕ) → length before ≤ k → to k ≡ k + length turn
  place_high k high = ap (λ b. if b then k else k + length turn) (le-ltb k (length before) high)

  -- a step before the turn, or one after it
  pub placed : (k : ℕ) → ((k < length before) × (to k ≡ k)) ⊎ ((length before ≤ k) × (to k ≡ k + length turn))
  placed k = elim (cases_lt k (length before)) [
    | inl low ↦ inl (low, place_low k low)
    | inr high ↦ inr (high, place_high k high)
  ]

  -- ---- the steps

  pub step_there : (k : ℕ) → slice_get (short before turn after) k ≡ slice_get (whole before turn after) (to k)
  step_there k = elim (placed k) [
    | inl p ↦ front before after k p.0 ∙ sym (front before (turn ++ after) k p.0)
        ∙ ap (slice_get (whole before turn after)) (sym p.1)
    | inr p ↦ (
        let b = length before in
        let t = length turn in
        let here : k ≡ k - b + b = omega (arith, p.0) in
        let there : to k ≡ k - b + t + b = omega (arith, p.0, p.1) in
        back before after (k - b) k here ∙ sym (back turn after (k - b) (k - b + t) refl)
        ∙ sym (back before (turn ++ after) (k - b + t) (to k) there))
  ]

  pub instr_there : (k : ℕ) → instr_at (short before turn after) k ≡ instr_at (whole before turn after) (to k)
  instr_there k = same_instr (short before turn after) (whole before turn after) k (to k) (step_there k)

  pub instr_after : (k m : ℕ) → k ≡ m + length before → instr_at (short before turn after) k ≡ instr_at after m
  instr_after k m e = same_instr (short before turn after) after k m (back before after m k e)

  pub instr_turn : (k m : ℕ) → k ≡ m + length before → m < length turn
      → instr_at (whole before turn after) k ≡ instr_at turn m
  instr_turn k m e low =
      same_instr (whole before turn after) turn k m (back before (turn ++ after) m k e ∙ front turn after m low)

  -- ---- their order

  pub place_there_le : (i j : ℕ) → i ≤ j → to i ≤ to j
  place_there_le i j low = elim (placed i) [
    | inl a ↦ elim (placed j) [
      | inl b ↦ omega (arith, low, a.0, a.1, b.0, b.1)
      | inr b ↦ omega (arith, low, a.0, a.1, b.0, b.1)
    ]
    | inr a ↦ elim (placed j) [
      | inl b ↦ omega (arith, low, a.0, a.1, b.0, b.1)
      | inr b ↦ omega (arith, low, a.0, a.1, b.0, b.1)
    ]
  ]

  pub place_there_lt : (i j : ℕ) → i < j → to i < to j
  place_there_lt i j low = elim (placed i) [
    | inl a ↦ elim (placed j) [
      | inl b ↦ omega (arith, low, a.0, a.1, b.0, b.1)
      | inr b ↦ omega (arith, low, a.0, a.1, b.0, b.1)
    ]
    | inr a ↦ elim (placed j) [
      | inl b ↦ omega (arith, low, a.0, a.1, b.0, b.1)
      | inr b ↦ omega (arith, low, a.0, a.1, b.0, b.1)
    ]
  ]

  pub place_there_lt_back : (i j : ℕ) → to i < to j → i < j
  place_there_lt_back i j low = elim (cases_lt i j) [
    | inl h ↦ h
    | inr h ↦ (let past = place_there_le j i h in absurd (omega (arith, low, past)))
  ]

  pub place_there_before : (i j : ℕ) → nat_lt i j ≡ nat_lt (to i) (to j)
  place_there_before i j = elim (cases_lt i j) [
    | inl h ↦ lt-ltb i j h ∙ sym (lt-ltb (to i) (to j) (place_there_lt i j h))
    | inr h ↦ le-ltb i j h ∙ sym (le-ltb (to i) (to j) (place_there_le j i h))
  ]

  pub place_there_next : (k : ℕ) → to k + 1 ≤ to (k + 1)
  place_there_next k = let h = place_there_lt k (k + 1) (omega arith) in omega (arith, h)

  -- a place in the whole list is that of a step that stays, or one in the turn
  pub which_place : (m : ℕ) → ((k : ℕ) × (m ≡ to k)) ⊎ ((length before ≤ m) × (m < length before + length turn))
  which_place m = elim (cases_lt m (length before)) [
    | inl low ↦ inl (m, sym (place_low m low))
    | inr high ↦ elim (cases_lt m (length before + length turn)) [
      | inl inside ↦ inr (high, inside)
      | inr past ↦ (
          let k = m - length before - length turn + length before in
          let there = place_high k (omega arith) in
          inl (k, omega (arith, past, there)))
    ]
  ]

  -- ---- tests of the steps between two

  module _ (f g : ℕ → Bool) where
    pub any_there_between : (i j : ℕ) → ((k : ℕ) → i < k → k < j → f k ≡ true → g (to k) ≡ true)
        → list_any f (between i j) ≡ true → list_any g (between (to i) (to j)) ≡ true
    any_there_between i j same h =
        let m = any_between_from f i j h in
        any_between_to g (to i) (to j) (to m.0) (place_there_lt i m.0 m.1) (place_there_lt m.0 j m.2)
        (same m.0 m.1 m.2 m.3)

    pub any_there : ((k : ℕ) → f k ≡ true → g (to k) ≡ true) → (i j : ℕ) → list_any f (between i j) ≡ true
        → list_any g (between (to i) (to j)) ≡ true
    any_there same i j h = any_there_between i j (λ k low high. same k) h

    -- the last one too
    pub any_there_up_to : ((k : ℕ) → f k ≡ true → g (to k) ≡ true) → (i j : ℕ) → list_any f (between i (j + 1)) ≡ true
        → list_any g (between (to i) (to j + 1)) ≡ true
    any_there_up_to same i j h =
        let m = any_between_from f i (j + 1) h in
        let last : m.0 ≤ j = omega (arith, m.2) in
        let high = place_there_le m.0 j last in
        any_between_to g (to i) (to j + 1) (to m.0) (place_there_lt i m.0 m.1) (omega (arith, high)) (same m.0 m.3)

    -- none of the steps that stay, and none of the turn where it stands between
    pub none_there : ((k : ℕ) → g (to k) ≡ f k) → (i j : ℕ)
        → (i < length before → length before ≤ j → (m : ℕ) → length before ≤ m → m < length before + length turn
        → g m ≡ false)
        → list_any f (between i j) ≡ false → list_any g (between (to i) (to j)) ≡ false
    none_there same i j crossed none =
        none_between_to g (to i) (to j) (λ m low high. elim (which_place m) [
          | inl k ↦ ap g k.1 ∙ same k.0 ∙ none_between_from f i j k.0 none
              (place_there_lt_back i k.0 (omega (arith, low, k.1)))
              (place_there_lt_back k.0 j (omega (arith, high, k.1)))
          | inr t ↦ crossed (first i m low t.1) (last j m high t.0) m t.0 t.1
        ])
      where
        first : (i m : ℕ) → to i < m → m < length before + length turn → i < length before
        first i m low inside = elim (placed i) [
          | inl a ↦ a.0
          | inr a ↦ absurd (omega (arith, a.0, a.1, low, inside))
        ]

        last : (j m : ℕ) → m < to j → length before ≤ m → length before ≤ j
        last j m high inside = elim (placed j) [
          | inl b ↦ absurd (omega (arith, b.0, b.1, high, inside))
          | inr b ↦ b.0
        ]
