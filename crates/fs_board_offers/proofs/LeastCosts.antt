-- The least of costs, where there are any.
use Rattle.std.proofs.Common.{◌≡◌, ℕ, zero, suc, ◌+◌, ◌<◌, Option, None, Some, List, [], ◌∷◌, ◌++◌, map, length, take, refl, ap, ◌∙◌, arith}
use Rattle.std.specs.Prelude.{min, get_or}
use Rattle.fs_kinds.specs.declared.placement.Entry.{Entry}
use Rattle.fs_board_offers.specs.Offers.{Offers, entry_cost}
use Rattle.fs_board_offers.specs.Pruning.{least}
use Rattle.fs_board_offers.specs.Breaks.{lesser_of, least_of}

pub lesser_none : (m : Option ℕ) → lesser_of m None ≡ m
lesser_none None = refl
lesser_none (Some m) = refl

min_assoc : (k m n : ℕ) → min k (min m n) ≡ min (min k m) n
min_assoc k m n = omega arith

pub lesser_assoc : (k m n : Option ℕ) → lesser_of k (lesser_of m n) ≡ lesser_of (lesser_of k m) n
lesser_assoc None m n = refl
lesser_assoc (Some k) None n = refl
lesser_assoc (Some k) (Some m) None = refl
lesser_assoc (Some k) (Some m) (Some n) = ap Some (min_assoc k m n)

pub least_more : {A : Type 0} (f : A → Option ℕ) (xs : List A) (i : ℕ) (d : A) → i < length xs
    → least_of f (take (i + 1) xs) ≡ lesser_of (least_of f (take i xs)) (f (get_or xs i d))
least_more f [] i d l = absurd (omega arith)
least_more f (x ∷ xs) zero d l = lesser_none (f x)
least_more f (x ∷ xs) (suc i) d l =
    let e : suc i + 1 ≡ suc (i + 1) = omega arith in
    rw e (ap (lesser_of (f x)) (least_more f xs i d (omega arith)) ∙ lesser_assoc (f x) (least_of f (take i xs)) (f (get_or xs i d)))

pub least_append : (offers : Offers) (es fs : List Entry)
    → least (map (entry_cost offers) (es ++ fs)) ≡ lesser_of (least (map (entry_cost offers) es)) (least (map (entry_cost offers) fs))
least_append offers [] fs = refl
least_append offers (e ∷ es) fs =
    ap (lesser_of (Some (entry_cost offers e))) (least_append offers es fs)
    ∙ lesser_assoc (Some (entry_cost offers e)) (least (map (entry_cost offers) es)) (least (map (entry_cost offers) fs))
