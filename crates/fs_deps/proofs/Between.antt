-- Tests on the numbers between two.
use Rattle.std.proofs.Common.{◌≡◌, ℕ, zero, suc, ◌+◌, ◌-◌, ◌<◌, ◌≤◌, Bool, true, false, sym, subst, inl, inr, arith}
use Rattle.std.specs.List.{list_any, range_with_len}
use Rattle.std.proofs.lemmas.Bool.{or_cases, or_left, or_right, cases_eq, false≢true, false_from_ne_true, both_ways}
use Rattle.fs_model.specs.Numbers.{between}

any_from : (f : ℕ → Bool) (a n : ℕ) → list_any f (range_with_len a n) ≡ true → (m : ℕ) × (a ≤ m) × (m < a + n) × (f m ≡ true)
any_from f a zero h = absurd (false≢true h)
any_from f a (suc n) h = elim (or_cases (f a) (list_any f (range_with_len (a + 1) n)) h) [
  | inl e ↦ (a, omega arith, omega arith, e)
  | inr later ↦ (let m = any_from f (a + 1) n later in (m.0, omega (arith, m.1), omega (arith, m.2), m.3))
]

any_to : (f : ℕ → Bool) (a n m : ℕ) → a ≤ m → m < a + n → f m ≡ true → list_any f (range_with_len a n) ≡ true
any_to f a zero m low high e = absurd (omega arith)
any_to f a (suc n) m low high e = elim (cases_eq a m) [
  | inl here ↦ or_left (f a) _ (subst (λ (x : ℕ). f x ≡ true) (sym here) e)
  | inr ne ↦ or_right (f a) _ (any_to f (a + 1) n m (omega arith) (omega arith) e)
]

pub any_between_from : (f : ℕ → Bool) (i j : ℕ) → list_any f (between i j) ≡ true → (m : ℕ) × (i < m) × (m < j) × (f m ≡ true)
any_between_from f i j h = let m = any_from f (i + 1) (j - (i + 1)) h in (m.0, omega (arith, m.1), omega (arith, m.1, m.2), m.3)

pub any_between_to : (f : ℕ → Bool) (i j m : ℕ) → i < m → m < j → f m ≡ true → list_any f (between i j) ≡ true
any_between_to f i j m low high e = any_to f (i + 1) (j - (i + 1)) m (omega arith) (omega arith) e

pub none_between_from : (f : ℕ → Bool) (i j m : ℕ) → list_any f (between i j) ≡ false → i < m → m < j → f m ≡ false
none_between_from f i j m h low high = false_from_ne_true _ (λ e. both_ways _ h (any_between_to f i j m low high e))

pub none_between_to : (f : ℕ → Bool) (i j : ℕ) → ((m : ℕ) → i < m → m < j → f m ≡ false) → list_any f (between i j) ≡ false
none_between_to f i j h = false_from_ne_true _ (λ e. let m = any_between_from f i j e in both_ways _ (h m.0 m.1 m.2) m.3)
