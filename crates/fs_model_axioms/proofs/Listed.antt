-- Which numbers stand in a list, as it grows.
use Rattle.std.proofs.Common.{◌≡◌, ℕ, zero, suc, ◌+◌, ◌<◌, ◌≤◌, ◌==◌, Bool, true, false, cond, ◌&&◌, ◌||◌, Option, None, Some, filter, List, [], ◌∷◌, ◌++◌, length, take, set, get_or, refl, sym, inl, inr, arith, ap, ◌∙◌}
use Rattle.std.specs.Prelude.{if◌then◌else◌}
use Rattle.std.specs.List.{list_all, range_with_len, last_or}
use Rattle.std.proofs.lemmas.Bool.{cases_eq, cases_Bool, eq-eqb, ne_eqb, false_from_ne_true, both_ways}
use Rattle.std.proofs.lemmas.List.{take_more, take_all, get_or-set_other}
use Rattle.fs_model.specs.Numbers.{has_number, numbers_below}
use Rattle.fs_model.proofs.Ranges.{each_below}
use Rattle.fs_model.proofs.GrowingLists.{has_number-more}

pub or-false : (b : Bool) → (b || false) ≡ b
or-false true = refl
or-false false = refl

pub or-true : (b : Bool) → (b || true) ≡ true
or-true true = refl
or-true false = refl

-- a number that is above each one listed isn't listed
pub not_listed : (xs : List ℕ) (n : ℕ) → ((k : ℕ) → k < length xs → get_or xs k 0 < n) → has_number xs n ≡ false
not_listed [] n h = refl
not_listed (x ∷ xs) n h =
    rw (ne_eqb x n (λ e. below (h 0 (omega arith)) e)) (not_listed xs n (λ k low. h (suc k) (omega (arith, low))))
  where
    below : {x n : ℕ} → x < n → x ≡ n → ⊥
    below h e = absurd (omega (arith, h, e))

pub fails_below : (test : ℕ → Bool) (n k : ℕ) → k < n → test k ≡ false → list_all test (numbers_below n) ≡ false
fails_below test n k low h = false_from_ne_true _ (λ all. both_ways (test k) h (each_below test n k all low))

-- a table of a test's answers says of all numbers below n what the test says
table_from : (test : ℕ → Bool) (a : ℕ) (table : List Bool) → ((k : ℕ) → k < length table → get_or table k false ≡ test (a + k))
    → list_all (λ b. b) table ≡ list_all test (range_with_len a (length table))
table_from test a [] h = refl
table_from test a (b ∷ table) h = rw (
  h 0 (omega arith) ∙ same (a + 0) a (omega arith),
  table_from test (a + 1) table (λ k low. h (suc k) (omega (arith, low)) ∙ same (a + suc k) (a + 1 + k) (omega arith)),
)
    refl
  where
    same : (m n : ℕ) → m ≡ n → test m ≡ test n
    same m n e = ap test e

pub table_says : (test : ℕ → Bool) (n : ℕ) (table : List Bool) → length table ≡ n → ((k : ℕ) → k < n
    → get_or table k false ≡ test k)
    → list_all (λ b. b) table ≡ list_all test (numbers_below n)
table_says test n table e h =
    table_from test 0 table (λ k low. h k (omega (arith, low, e)) ∙ same k (0 + k) (omega arith))
    ∙ ap (λ m. list_all test (range_with_len 0 m)) e
  where
    same : (m n : ℕ) → m ≡ n → test m ≡ test n
    same m n e = ap test e

-- the table with a number entered, as the list grows by it
pub entered : (table : List Bool) (xs : List ℕ) (i n : ℕ) → length table ≡ n → i < length xs → get_or xs i 0 < n
    → ((k : ℕ) → k < n → get_or table k false ≡ has_number (take i xs) k)
    → (k : ℕ) → k < n → get_or (set table (get_or xs i 0) true) k false ≡ has_number (take (i + 1) xs) k
entered table xs i n e low fits h k below = elim (cases_eq (get_or xs i 0) k) [
  | inl same ↦ rw (has_number-more xs i k low, same) (here table k (omega (arith, e, below))
      ∙ sym (rw (eq-eqb k k refl) (or-true (has_number (take i xs) k))))
  | inr ne ↦ (
      rw (has_number-more xs i k low, ne_eqb (get_or xs i 0) k ne, sym (h k below))
      (get_or-set_other table (get_or xs i 0) k true false (λ e. ne (sym e)) ∙ sym (or-false (get_or table k false))))
]
  where
    here : (table : List Bool) (k : ℕ) → k < length table → get_or (set table k true) k false ≡ true
    here [] k h = absurd (omega (arith, h))
    here (b ∷ table) zero h = refl
    here (b ∷ table) (suc k) h = here table k (omega (arith, h))

-- the latest that passes, as the list grows
last-append : (test : ℕ → Bool) (xs : List ℕ) (c : ℕ) (o : Option ℕ)
    → last_or o (filter test (xs ++ c ∷ [])) ≡ cond (test c) (Some c) (last_or o (filter test xs))
last-append test [] c o = elim (cases_Bool (test c)) [
  | inl e ↦ rw e refl
  | inr e ↦ rw e refl
]
last-append test (x ∷ xs) c o = elim (cases_Bool (test x)) [
  | inl e ↦ rw e (last-append test xs c (Some x))
  | inr e ↦ rw e (last-append test xs c o)
]

pub last_more_yes : (test : ℕ → Bool) (xs : List ℕ) (i : ℕ) → i < length xs → test (get_or xs i 0) ≡ true
    → Some (get_or xs i 0) ≡ last_or None (filter test (take (i + 1) xs))
last_more_yes test xs i low h = sym (ap (λ ys. last_or None (filter test ys)) (take_more xs i 0 low)
    ∙ rw h at (last-append test (take i xs) (get_or xs i 0) None))

pub last_more_no : (test : ℕ → Bool) (xs : List ℕ) (i : ℕ) → i < length xs → test (get_or xs i 0) ≡ false
    → last_or None (filter test (take i xs)) ≡ last_or None (filter test (take (i + 1) xs))
last_more_no test xs i low h = sym (ap (λ ys. last_or None (filter test ys)) (take_more xs i 0 low)
    ∙ rw h at (last-append test (take i xs) (get_or xs i 0) None))

pub last_whole : (test : ℕ → Bool) (xs ys : List ℕ) (i : ℕ) (last : Option ℕ) → xs ≡ ys → length xs ≤ i
    → last ≡ last_or None (filter test (take i xs))
    → last ≡ last_or None (filter test ys)
last_whole test xs ys i last e past h = h ∙ ap (λ zs. last_or None (filter test zs)) (take_all i xs past ∙ e)
