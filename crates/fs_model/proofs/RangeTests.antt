-- Tests of all the numbers of a range.
use Rattle.std.proofs.Common.{◌≡◌, ℕ, zero, suc, ◌+◌, ◌<◌, ◌≤◌, Bool, true, false, refl, sym, subst, inl, inr, arith}
use Rattle.std.specs.List.{list_all, list_any, range_with_len}
use Rattle.std.proofs.lemmas.Bool.{and_from, or_cases, or_left, or_right, cases_eq, false≢true, false_from_ne_true, both_ways}
use Rattle.fs_model.specs.Numbers.{numbers_below}

pub any_from : (f : ℕ → Bool) (a n : ℕ) → list_any f (range_with_len a n) ≡ true → (m : ℕ) × (a ≤ m) × (m < a + n) × (f m ≡ true)
any_from f a zero h = absurd (false≢true h)
any_from f a (suc n) h = elim (or_cases (f a) (list_any f (range_with_len (a + 1) n)) h) [
  | inl e ↦ (a, omega arith, omega arith, e)
  | inr later ↦ (let m = any_from f (a + 1) n later in (m.0, omega (arith, m.1), omega (arith, m.2), m.3))
]

pub any_to : (f : ℕ → Bool) (a n m : ℕ) → a ≤ m → m < a + n → f m ≡ true → list_any f (range_with_len a n) ≡ true
any_to f a zero m low high e = absurd (omega arith)
any_to f a (suc n) m low high e = elim (cases_eq a m) [
  | inl here ↦ or_left (f a) _ (subst (λ (x : ℕ). f x ≡ true) (sym here) e)
  | inr ne ↦ or_right (f a) _ (any_to f (a + 1) n m (omega arith) (omega arith) e)
]

pub none_at : (f : ℕ → Bool) (a n m : ℕ) → list_any f (range_with_len a n) ≡ false → a ≤ m → m < a + n → f m ≡ false
none_at f a n m none low high = false_from_ne_true (f m) (λ e. both_ways _ none (any_to f a n m low high e))

-- tests that agree at each of the numbers
pub any_alike : (f g : ℕ → Bool) (a n : ℕ) → ((m : ℕ) → a ≤ m → m < a + n → f m ≡ g m) → list_any f (range_with_len a n) ≡ list_any g (range_with_len a n)
any_alike f g a zero alike = refl
any_alike f g a (suc n) alike =
    let here = alike a (omega arith) (omega arith) in
    let later = any_alike f g (a + 1) n (λ m low high. alike m (omega arith) (omega arith)) in
    cc (here, later)

all_from : (f : ℕ → Bool) (a n : ℕ) → ((m : ℕ) → a ≤ m → m < a + n → f m ≡ true) → list_all f (range_with_len a n) ≡ true
all_from f a zero each = refl
all_from f a (suc n) each =
    and_from _ _ (each a (omega arith) (omega arith)) (all_from f (a + 1) n (λ m low high. each m (omega (arith, low)) (omega (arith, high))))

pub all_below : (f : ℕ → Bool) (n : ℕ) → ((m : ℕ) → m < n → f m ≡ true) → list_all f (numbers_below n) ≡ true
all_below f n each = all_from f 0 n (λ m low high. each m (omega (arith, high)))
