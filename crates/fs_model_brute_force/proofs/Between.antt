-- Tests of some number between two.
use Rattle.std.proofs.Common.{◌≡◌, ◌-◌, ◌+◌, ◌<◌, ◌∷◌, [], List, ℕ, suc, Bool}
use Rattle.std.proofs.Common.{true, false, ◌||◌, arith, length, slice_index_or, refl}
use Rattle.std.specs.List.{range_with_len, list_any}

-- the numbers from m up to j begin with m
pub range_first : (m j : ℕ) → m < j → range_with_len m (j - m) ≡ m ∷ range_with_len (m + 1) (j - (m + 1))
range_first m j less = let e : j - m ≡ suc (j - (m + 1)) = omega (arith, less) in rw e refl

-- m fails the test, and so the numbers after it decide
pub any_next : (test : ℕ → Bool) (m j : ℕ) → m < j → test m ≡ false
    → list_any test (range_with_len (m + 1) (j - (m + 1))) ≡ list_any test (range_with_len m (j - m))
any_next test m j less fails = rw (range_first m j less, fails) refl

-- m passes the test
pub any_here : (test : ℕ → Bool) (m j : ℕ) → m < j → test m ≡ true → list_any test (range_with_len m (j - m)) ≡ true
any_here test m j less passes = rw (range_first m j less, passes) refl

-- a test of a list of two
pub any_of_two : {X : Type 0} (test : X → Bool) (xs : List X) (x y : X) → length xs ≡ 2
    → list_any test xs ≡ (test (slice_index_or xs 0 x) || test (slice_index_or xs 1 y))
any_of_two test (a ∷ b ∷ []) x y two = or-false (test a) (test b)
  where
    or-false : (p q : Bool) → (p || (q || false)) ≡ (p || q)
    or-false true q = refl
    or-false false true = refl
    or-false false false = refl
any_of_two test [] x y two = absurd (omega (arith, two))
any_of_two test (a ∷ []) x y two = absurd (omega (arith, two))
any_of_two test (a ∷ b ∷ c ∷ more) x y two = absurd (omega (arith, two))
