-- What lists contain.
use Rattle.std.proofs.Common.{◌≡◌, ℕ, zero, suc, ◌+◌, ◌<◌, ◌⊎◌, Bool, true, false, Some, List, [], ◌∷◌, length, filter, inl, inr, refl, sym, ◌∙◌, ap, subst, arith}
use Rattle.std.specs.Prelude.{nat_lt, slice_get, take, drop, if◌then◌else◌}
use Rattle.std.specs.List.{Contains, enumerate_from, find, list_all, list_any, position, position_or_len, slice_index_or}
use Rattle.std.proofs.lemmas.Bool.{false≢true, and_from, and_parts, or_cases, or_left, or_right, lt-ltb}
use Rattle.std.proofs.lemmas.List.Folds.{find_at}
use Rattle.std.proofs.lemmas.List.Quantifiers.{position-Some}
use Rattle.std.proofs.lemmas.Option.{slice_get_within, get_or_from_slice_get}
use Rattle.fs_kinds.proofs.Entries.{find-some}
use Rattle.fs_values.proofs.Contained.{none_in, later_in}

pub first_in : {X : Type 0} (x y : X) (xs : List X) → y ≡ x → Contains (y ∷ xs) x
first_in x y xs same = (0, omega arith, same)

pub in_cases : {X : Type 0} (y : X) (xs : List X) (x : X) → Contains (y ∷ xs) x → (y ≡ x) ⊎ Contains xs x
in_cases y xs x (zero, low, same) = inl same
in_cases y xs x (suc k, low, same) = inr (k, omega (arith, low), same)

-- ---- made of other lists

module _ {X : Type 0} (f : X → Bool) where
  kept : (y : X) (ys : List X) (x : X) (b : Bool) → b ≡ true → y ≡ x → Contains (if b then y ∷ filter f ys else filter f ys) x
  kept y ys x true e same = first_in x y (filter f ys) same
  kept y ys x false e same = absurd (false≢true e)

  passed : (y : X) (ys : List X) (x : X) (b : Bool) → Contains (filter f ys) x → Contains (if b then y ∷ filter f ys else filter f ys) x
  passed y ys x true has = later_in y (filter f ys) x has
  passed y ys x false has = has

  pub in_filter : (xs : List X) (x : X) → Contains xs x → f x ≡ true → Contains (filter f xs) x
  in_filter [] x has holds = absurd (none_in x has)
  in_filter (y ∷ ys) x has holds = elim (in_cases y ys x has) [
    | inl same ↦ kept y ys x (f y) (ap f same ∙ holds) same
    | inr later ↦ passed y ys x (f y) (in_filter ys x later holds)
  ]

  pub all_in : (xs : List X) (x : X) → list_all f xs ≡ true → Contains xs x → f x ≡ true
  all_in [] x all has = absurd (none_in x has)
  all_in (y ∷ ys) x all has = elim (in_cases y ys x has) [
    | inl same ↦ ap f (sym same) ∙ (and_parts (f y) (list_all f ys) all).0
    | inr later ↦ all_in ys x (and_parts (f y) (list_all f ys) all).1 later
  ]

  pub all_of : (xs : List X) → ((x : X) → Contains xs x → f x ≡ true) → list_all f xs ≡ true
  all_of [] each = refl
  all_of (y ∷ ys) each = and_from _ _ (each y (first_in y y ys refl)) (all_of ys (λ x has. each x (later_in y ys x has)))

  pub any_in : (xs : List X) (x : X) → Contains xs x → f x ≡ true → list_any f xs ≡ true
  any_in [] x has holds = absurd (none_in x has)
  any_in (y ∷ ys) x has holds = elim (in_cases y ys x has) [
    | inl same ↦ or_left (f y) (list_any f ys) (ap f same ∙ holds)
    | inr later ↦ or_right (f y) (list_any f ys) (any_in ys x later holds)
  ]

  pub any_from : (xs : List X) → list_any f xs ≡ true → (x : X) × Contains xs x × (f x ≡ true)
  any_from [] any = absurd (false≢true any)
  any_from (y ∷ ys) any = elim (or_cases (f y) (list_any f ys) any) [
    | inl here ↦ (y, first_in y y ys refl, here)
    | inr later ↦ (let rest = any_from ys later in (rest.0, later_in y ys rest.0 rest.1, rest.2))
  ]

pub in_numbered : {X : Type 0} (n : ℕ) (xs : List X) (k : ℕ) (d : X) → k < length xs → Contains (enumerate_from n xs) (n + k, slice_index_or xs k d)
in_numbered n [] k d low = absurd (omega (arith, low))
in_numbered n (x ∷ xs) zero d low = first_in _ _ _ (ap (λ m. (m, x)) (omega arith))
in_numbered n (x ∷ xs) (suc k) d low =
    later_in _ _ _ (subst (λ m. Contains (enumerate_from (n + 1) xs) (m, slice_index_or xs k d)) (omega arith) (in_numbered (n + 1) xs k d (omega (arith, low))))

-- it isn't empty
pub some_in : {X : Type 0} (xs : List X) (x : X) → Contains xs x → nat_lt 0 (length xs) ≡ true
some_in xs x has = let low = has.1 in lt-ltb 0 (length xs) (omega (arith, low))

-- ---- parts of a list

pub from_take : {X : Type 0} (k : ℕ) (xs : List X) (x : X) → Contains (take k xs) x → Contains xs x
from_take zero xs x has = absurd (none_in x has)
from_take (suc k) [] x has = absurd (none_in x has)
from_take (suc k) (y ∷ ys) x has = elim (in_cases y (take k ys) x has) [
  | inl same ↦ first_in x y ys same
  | inr later ↦ later_in y ys x (from_take k ys x later)
]

pub from_drop : {X : Type 0} (k : ℕ) (xs : List X) (x : X) → Contains (drop k xs) x → Contains xs x
from_drop zero xs x has = has
from_drop (suc k) [] x has = absurd (none_in x has)
from_drop (suc k) (y ∷ ys) x has = later_in y ys x (from_drop k ys x has)

pub get_in : {X : Type 0} (k : ℕ) (xs : List X) (x : X) → slice_get xs k ≡ Some x → Contains xs x
get_in k xs x e = (k, slice_get_within xs k x e, get_or_from_slice_get xs k x x e)

-- ---- the first that passes

pub find_is : {X : Type 0} (f : X → Bool) (xs : List X) (k : ℕ) (x : X) → position f xs ≡ Some k → slice_get xs k ≡ Some x → find f xs ≡ Some x
find_is f xs k x at there = find-some f xs k x at ∙ ap Some (get_or_from_slice_get xs k x x there)

pub record IsFound {X : Type 0} (f : X → Bool) (xs : List X) (x : X) : Type 0 where
  pub at : ℕ
  pub first : position f xs ≡ Some at
  pub there : slice_get xs at ≡ Some x
  pub holds : f x ≡ true

pub found : {X : Type 0} (f : X → Bool) (xs : List X) (x : X) → find f xs ≡ Some x → IsFound f xs x
found f xs x e =
    let there = sym (find_at f xs) ∙ e in
    let low = slice_get_within xs (position_or_len f xs) x there in
    let first : position f xs ≡ Some (position_or_len f xs) = rw (lt-ltb (position_or_len f xs) (length xs) low) refl in
    let parts = position-Some f xs (position_or_len f xs) x first in
    record { at = position_or_len f xs; first = first; there = there; holds = ap f (sym (get_or_from_slice_get xs (position_or_len f xs) x x there)) ∙ parts.1 }
