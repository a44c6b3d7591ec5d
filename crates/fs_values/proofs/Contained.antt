-- What lists contain.
use Rattle.std.proofs.Common.{◌≡◌, zero, suc, List, [], ◌∷◌, map, flat_map, refl, ap, subst, sym, inl, inr, arith}
use Rattle.std.specs.List.{Contains}
use Rattle.std.proofs.lemmas.List.Elements.{Contains-append_left, Contains-append_right, Contains-append_cases}

pub none_in : {X : Type 0} (x : X) → Contains [] x → ⊥
none_in x has = let low = has.1 in absurd (omega (arith, low))

pub first_in : {X : Type 0} (x : X) (xs : List X) → Contains (x ∷ xs) x
first_in x xs = (0, omega arith, refl)

pub later_in : {X : Type 0} (y : X) (xs : List X) (x : X) → Contains xs x → Contains (y ∷ xs) x
later_in y xs x has = let low = has.1 in (suc has.0, omega (arith, low), has.2)

pub one_in : {X : Type 0} (y x : X) → Contains (y ∷ []) x → y ≡ x
one_in y x (zero, low, same) = same
one_in y x (suc k, low, same) = absurd (omega (arith, low))

-- an element of some part
pub in_part : {X Y : Type 0} (f : X → List Y) (xs : List X) (y : Y) → Contains (flat_map f xs) y → (x : X) × Contains xs x × Contains (f x) y
in_part f [] y has = absurd (none_in y has)
in_part f (x ∷ xs) y has = elim (Contains-append_cases (f x) (flat_map f xs) y has) [
  | inl here ↦ (x, first_in x xs, here)
  | inr later ↦ (let rest = in_part f xs y later in (rest.0, later_in x xs rest.0 rest.1, rest.2))
]

pub in_parts : {X Y : Type 0} (f : X → List Y) (xs : List X) (x : X) (y : Y) → Contains xs x → Contains (f x) y → Contains (flat_map f xs) y
in_parts f [] x y has here = absurd (none_in x has)
in_parts f (z ∷ xs) x y (zero, low, same) here =
    Contains-append_left (f z) (flat_map f xs) y (subst (λ u. Contains (f u) y) (sym same) here)
in_parts f (z ∷ xs) x y (suc k, low, same) here =
    Contains-append_right (f z) (flat_map f xs) y (in_parts f xs x y (k, omega (arith, low), same) here)

-- ---- mapped

pub in_map : {X Y : Type 0} (f : X → Y) (xs : List X) (x : X) → Contains xs x → Contains (map f xs) (f x)
in_map f [] x has = absurd (none_in x has)
in_map f (y ∷ ys) x (zero, low, same) = (0, omega arith, ap f same)
in_map f (y ∷ ys) x (suc k, low, same) = later_in (f y) (map f ys) (f x) (in_map f ys x (k, omega (arith, low), same))

pub from_map : {X Y : Type 0} (f : X → Y) (xs : List X) (y : Y) → Contains (map f xs) y → (x : X) × Contains xs x × (f x ≡ y)
from_map f [] y has = absurd (none_in y has)
from_map f (x ∷ xs) y (zero, low, same) = (x, first_in x xs, same)
from_map f (x ∷ xs) y (suc k, low, same) =
    let rest = from_map f xs y (k, omega (arith, low), same) in
    (rest.0, later_in x xs rest.0 rest.1, rest.2)
