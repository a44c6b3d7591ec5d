-- What holds of each item of a list by its place holds with one more.
use Rattle.std.proofs.Common.{◌≡◌, ℕ, zero, suc, ◌+◌, ◌-◌, ◌<◌, ◌≤◌, Fits, w8, List, [], ◌∷◌, ◌++◌, length, ap, ◌∙◌, subst, sym, arith, length-append}
use Rattle.std.specs.List.{slice_index_or}
use Rattle.fs_kinds.specs.Limits.{most_harts, most_numbered}

pub longer : {X : Type 0} (xs ys : List X) (x : X) (n : ℕ) → length xs ≡ n → ys ≡ xs ++ x ∷ [] → length ys ≡ n + 1
longer xs ys x n long grown = ap length grown ∙ (let both = length-append xs (x ∷ []) in omega (arith, both, long))

each_more : {X : Type 0} (P : ℕ → X → Type 0) (d x : X) (xs : List X) → ((k : ℕ) → k < length xs → P k (slice_index_or xs k d))
    → P (length xs) x → (k : ℕ) → k < length (xs ++ x ∷ []) → P k (slice_index_or (xs ++ x ∷ []) k d)
each_more P d x [] each last zero low = last
each_more P d x [] each last (suc k) low = absurd (omega (arith, low))
each_more P d x (y ∷ ys) each last zero low = each 0 (omega arith)
each_more P d x (y ∷ ys) each last (suc k) low =
    each_more (λ j z. P (suc j) z) d x ys (λ j inside. each (suc j) (omega (arith, inside))) last k (omega (arith, low))

pub more : {X : Type 0} (P : ℕ → X → Type 0) (d x : X) (xs ys : List X) (n : ℕ) → length xs ≡ n → ys ≡ xs ++ x ∷ []
    → ((k : ℕ) → k < length xs → P k (slice_index_or xs k d)) → P n x → (k : ℕ) → k < length ys → P k (slice_index_or ys k d)
more {X = X} P d x xs ys n long grown each last =
    subst (λ (zs : List X). (k : ℕ) → k < length zs → P k (slice_index_or zs k d)) (sym grown)
    (each_more P d x xs each (subst (λ (i : ℕ). P i x) (sym long) last))

-- ---- over plain numbers, so that nothing else is read

pub hart_fits : (hart n m : ℕ) → hart < n → n ≡ m → m ≤ most_harts → Fits w8 hart
hart_fits hart n m low is few = omega arith

pub number_fits : (a count : ℕ) → a < count → count ≤ most_numbered → Fits w8 a
number_fits a count low few = omega arith

pub below_same : (a n m : ℕ) → a < n → n ≡ m → a < m
below_same a n m low is = omega arith

pub nearer : (n i : ℕ) → i < n → n - (i + 1) < n - i
nearer n i low = omega arith
