-- Which numbers stand in a list, as it grows.
use Rattle.std.proofs.Common.{◌≡◌, ℕ, ◌+◌, ◌<◌, ◌==◌, Bool, true, false, ◌&&◌, ◌||◌, List, [], ◌∷◌, ◌++◌, length, take, get_or, refl, inl, inr, ap, ◌∙◌}
use Rattle.std.specs.Prelude.{if◌then◌else◌}
use Rattle.std.proofs.lemmas.Bool.{cases_Bool}
use Rattle.std.proofs.lemmas.List.{take_more}
use Rattle.fs_model.specs.Numbers.{has_number, stands_before}
use Rattle.fs_model.proofs.ListedNumbers.{has-append}

or-false : (b : Bool) → (b || false) ≡ b
or-false true = refl
or-false false = refl

has_number-append : (xs : List ℕ) (c a : ℕ) → has_number (xs ++ c ∷ []) a ≡ (has_number xs a || (c == a))
has_number-append xs c a = has-append xs (c ∷ []) a ∙ ap (λ b. has_number xs a || b) (or-false (c == a))

stands_before-append : (xs : List ℕ) (c a b : ℕ)
    → stands_before (xs ++ c ∷ []) a b ≡ (stands_before xs a b || (has_number xs a && (c == b)))
stands_before-append [] c a b = neither (c == a)
  where
    neither : (p : Bool) → (if p then false else false) ≡ false
    neither true = refl
    neither false = refl
stands_before-append (x ∷ xs) c a b = elim (cases_Bool (x == a)) [
  | inl e ↦ rw e (has_number-append xs c b)
  | inr e ↦ rw e (stands_before-append xs c a b)
]

pub has_number-more : (xs : List ℕ) (i a : ℕ) → i < length xs
    → has_number (take (i + 1) xs) a ≡ (has_number (take i xs) a || (get_or xs i 0 == a))
has_number-more xs i a h = ap (λ ys. has_number ys a) (take_more xs i 0 h) ∙ has_number-append (take i xs) (get_or xs i 0) a

pub stands_before-more : (xs : List ℕ) (i a b : ℕ) → i < length xs
    → stands_before (take (i + 1) xs) a b ≡ (stands_before (take i xs) a b || (has_number (take i xs) a && (get_or xs i 0 == b)))
stands_before-more xs i a b h = ap (λ ys. stands_before ys a b) (take_more xs i 0 h)
    ∙ stands_before-append (take i xs) (get_or xs i 0) a b
