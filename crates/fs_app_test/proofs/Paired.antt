-- What holds of two lists place by place.
use Rattle.std.proofs.Common.{List, [], ◌∷◌, ◌++◌}
use Rattle.std.specs.List.{AllZip}

pub one_more : {A B : Type 0} (R : A → B → Type 0) (xs : List A) (ys : List B) (x : A) (y : B) → AllZip R xs ys → R x y
    → AllZip R (xs ++ x ∷ []) (ys ++ y ∷ [])
one_more R [] [] x y each is = (is, tt)
one_more R [] (b ∷ ys) x y each is = absurd each
one_more R (a ∷ xs) [] x y each is = absurd each
one_more R (a ∷ xs) (b ∷ ys) x y each is = (each.0, one_more R xs ys x y each.1 is)
