-- The place of the first item that passes a test.
use Rattle.std.proofs.Common.{◌≡◌, ℕ, ◌<◌, Bool, true, false, None, Some, List, [], ◌∷◌, length, get_or, refl, sym, ◌∙◌, ap, arith, inl, inr, unwrap_or}
use Rattle.std.specs.List.{position, position_or_len}
use Rattle.std.proofs.lemmas.Bool.{cases_lt, lt-ltb, le-ltb}
use Rattle.std.proofs.lemmas.Option.{none-some}
use Rattle.std.proofs.lemmas.List.Sums.{position_or_len_is}
use Rattle.fs_app_why.specs.Kinds.{place_by}

module _ {X : Type 0} (f : X → Bool) (xs : List X) (d : X) where
  pub placed_at : (k : ℕ) → k < length xs → ((j : ℕ) → j < k → f (get_or xs j d) ≡ false) → f (get_or xs k d) ≡ true
      → k ≡ place_by f xs
  placed_at k low before here =
      let first = position_or_len_is f xs k d (omega (arith, low)) before (λ small. here) in
      rw (first, lt-ltb k (length xs) low) refl

  placed_last : ((j : ℕ) → j < length xs → f (get_or xs j d) ≡ false) → length xs ≡ place_by f xs
  placed_last fails =
      let last = position_or_len_is f xs (length xs) d (omega arith) fails (λ low. absurd (omega (arith, low))) in
      rw (last, le-ltb (length xs) (length xs) (omega arith)) refl

module _ {X : Type 0} (f : X → Bool) where
  pub placed_none : (xs : List X) → ((j : ℕ) (d : X) → j < length xs → f (get_or xs j d) ≡ false)
      → length xs ≡ place_by f xs
  placed_none [] fails = refl
  placed_none (x ∷ xs) fails = placed_last f (x ∷ xs) x (λ j low. fails j x low)

module _ {X : Type 0} (f : X → Bool) (xs : List X) where
  pub found_within : (k : ℕ) → Some k ≡ position f xs → k < length xs
  found_within k is = elim (cases_lt (position_or_len f xs) (length xs)) [
    | inl low ↦
        let same : Some k ≡ Some (position_or_len f xs) = is ∙ rw (lt-ltb (position_or_len f xs) (length xs) low) refl in
        let number : k ≡ position_or_len f xs = ap (λ o. unwrap_or o 0) same in
        rw number low
    | inr high ↦
        let none : Some k ≡ None = is ∙ rw (le-ltb (position_or_len f xs) (length xs) high) refl in
        absurd (none-some k (sym none))
  ]
