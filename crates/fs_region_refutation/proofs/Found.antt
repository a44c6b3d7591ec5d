-- The first that passes, by its number.
use Rattle.std.proofs.Common.{◌≡◌, ℕ, ◌<◌, ◌≤◌, inl, inr, Bool, true, false, None, Some, List, length, get_or, refl, sym, ◌∙◌, ap, arith}
use Rattle.std.specs.List.{find, position, position_or_len}
use Rattle.std.proofs.lemmas.Bool.{cases_lt, lt-ltb, le-ltb}
use Rattle.std.proofs.lemmas.List.Folds.{find_at}
use Rattle.std.proofs.lemmas.List.FromFn.{length-range_with_len, get_or-range_with_len}
use Rattle.std.proofs.lemmas.List.Sums.{position_or_len_is, fails_before_first, passes_at_first}
use Rattle.std.proofs.lemmas.Option.{slice_get-get_or, slice_get_past}
use Rattle.fs_model.specs.Numbers.{numbers_below}

module _ {X : Type 0} (f : X → Bool) (xs : List X) (d : X) where
  -- it is the one before which none passes
  pub first_at : (k : ℕ) → k < length xs → ((j : ℕ) → j < k → f (get_or xs j d) ≡ false) → f (get_or xs k d) ≡ true → position f xs ≡ Some k
  first_at k low before here =
      let first = position_or_len_is f xs k d (omega (arith, low)) before (λ small. here) in
      rw (first, lt-ltb k (length xs) low) refl

  -- none passes
  pub none_at : ((j : ℕ) → j < length xs → f (get_or xs j d) ≡ false) → position f xs ≡ None
  none_at fails =
      let last = position_or_len_is f xs (length xs) d (omega arith) fails (λ low. absurd (omega (arith, low))) in
      rw (last, le-ltb (length xs) (length xs) (omega arith)) refl

-- a test of the numbers below n that fails past them is one of the items of the list, where it is the same for each
module _ {X : Type 0} (f : X → Bool) (xs : List X) (d : X) (g : ℕ → Bool) (n : ℕ) (few : n ≤ length xs)
    (same : (k : ℕ) → k < length xs → f (get_or xs k d) ≡ g k) (past : (k : ℕ) → n ≤ k → g k ≡ false) where
  abbrev at : ℕ
  at = position_or_len g (numbers_below n)

  fails : (j : ℕ) → j < at → j < n → g j ≡ false
  fails j low small =
      ap g (sym (get_or-range_with_len 0 n j 0 small ∙ omega arith)) ∙ fails_before_first g (numbers_below n) j 0 low

  here : at < n → position f xs ≡ find g (numbers_below n)
  here low =
      let long = length-range_with_len 0 n in
      let number : get_or (numbers_below n) at 0 ≡ at = get_or-range_with_len 0 n at 0 low ∙ omega arith in
      let passes : g at ≡ true = ap g (sym number) ∙ passes_at_first g (numbers_below n) 0 (omega (arith, low, long)) in
      first_at f xs d at (omega (arith, low, few))
      (λ j less. same j (omega (arith, less, low, few)) ∙ fails j less (omega (arith, less, low)))
      (same at (omega (arith, low, few)) ∙ passes)
      ∙ sym (find_at g (numbers_below n) ∙ slice_get-get_or (numbers_below n) at 0 (omega (arith, low, long)) ∙ ap Some number)

  nowhere : n ≤ at → position f xs ≡ find g (numbers_below n)
  nowhere high =
      let long = length-range_with_len 0 n in
      none_at f xs d (λ j small. same j small ∙ (elim (cases_lt j n) [
        | inl less ↦ fails j (omega (arith, less, high)) less
        | inr far ↦ past j far
      ]))
      ∙ sym (find_at g (numbers_below n) ∙ slice_get_past (numbers_below n) at (omega (arith, high, long)))

  pub found_below : position f xs ≡ find g (numbers_below n)
  found_below = elim (cases_lt at n) [
    | inl low ↦ here low
    | inr high ↦ nowhere high
  ]
