-- How many items of a list pass a test.
use Rattle.std.proofs.Common.{◌≡◌, ℕ, ◌+◌, ◌≤◌, Bool, true, false, cond, List, ◌∷◌, refl, arith}
use Rattle.std.specs.List.{count_by}
use Rattle.std.proofs.lemmas.Bool.{false≢true}
use Rattle.std.proofs.lemmas.List.Sums.{sum_by-cons}

abbrev pub one_if : Bool → ℕ
one_if b = cond b 1 0

pub one_if_le : (b c : Bool) → (b ≡ true → c ≡ true) → one_if b ≤ one_if c
one_if_le true true h = omega arith
one_if_le true false h = absurd (false≢true (h refl))
one_if_le false true h = omega arith
one_if_le false false h = omega arith

pub count-cons : {X : Type 0} (f : X → Bool) (x : X) (xs : List X) → count_by f (x ∷ xs) ≡ one_if (f x) + count_by f xs
count-cons f x xs = sum_by-cons (λ y. cond (f y) 1 0) x xs
