-- Tests on lists of numbers.
use Rattle.std.proofs.Common.{◌≡◌, ℕ, zero, suc, ◌+◌, Bool, true, false, ◌||◌, List, [], ◌∷◌, ◌++◌, length, refl, sym, ap, arith}
use Rattle.std.specs.List.{list_any, range_with_len, slice_index_or}
use Rattle.std.proofs.lemmas.List.Folds.{list_any-append}
use Rattle.fs_model.proofs.RangeTests.{any_alike}

pub same_tests : (b c : Bool) → (b ≡ true → c ≡ true) → (c ≡ true → b ≡ true) → b ≡ c
same_tests true c to from = sym (to refl)
same_tests false true to from = from refl
same_tests false false to from = refl

any_shifted : (f : ℕ → Bool) (a n : ℕ) → list_any f (range_with_len (a + 1) n) ≡ list_any (λ m. f (m + 1)) (range_with_len a n)
any_shifted f a zero = refl
any_shifted f a (suc n) = let later = any_shifted f (a + 1) n in cc later

-- a test of the elements by their numbers
pub any_numbered : {X : Type 0} (f : X → Bool) (xs ys : List X) (d : X)
    → list_any (λ m. f (slice_index_or (xs ++ ys) m d)) (range_with_len 0 (length xs)) ≡ list_any f xs
any_numbered f [] ys d = refl
any_numbered f (x ∷ xs) ys d =
    let next = λ (m : ℕ). f (slice_index_or ((x ∷ xs) ++ ys) m d) in
    let same : (m : ℕ) → next (m + 1) ≡ f (slice_index_or (xs ++ ys) m d) = λ m. ap next {x = m + 1} {y = suc m} (omega arith) in
    let shifted = any_shifted next 0 (length xs) in
    let alike = any_alike (λ m. next (m + 1)) (λ m. f (slice_index_or (xs ++ ys) m d)) 0 (length xs) (λ m low high. same m) in
    let rest = any_numbered f xs ys d in
    cc (shifted, alike, rest)

or_false : (b : Bool) → (b || false) ≡ b
or_false true = refl
or_false false = refl

-- and where none of the elements after them passes
pub any_of_first : {X : Type 0} (f : X → Bool) (xs ys : List X) (d : X) → list_any f ys ≡ false
    → list_any f (xs ++ ys) ≡ list_any (λ m. f (slice_index_or (xs ++ ys) m d)) (range_with_len 0 (length xs))
any_of_first f xs ys d none =
    let split = list_any-append f xs ys in
    let rest = or_false (list_any f xs) in
    cc (split, none, rest, any_numbered f xs ys d)
