-- A list that grows to the image of another, item by item.
use Rattle.std.proofs.Common.{◌≡◌, ℕ, ◌+◌, ◌<◌, List, [], ◌∷◌, ◌++◌, map, take, length, get_or, sym, ◌∙◌, ap, ap₂, subst}
use Rattle.std.proofs.lemmas.List.{map_more}

-- one more
pub next_copied : {X Y : Type 0} (f : X → Y) (xs : List X) (ys new : List Y) (i : ℕ) (d : X) (y : Y) → i < length xs
    → ys ≡ map f (take i xs) → y ≡ f (get_or xs i d) → new ≡ ys ++ y ∷ [] → new ≡ map f (take (i + 1) xs)
next_copied {X = X} {Y = Y} f xs ys new i d y low was is more =
    more ∙ (ap₂ (λ (us : List Y) (v : Y). us ++ v ∷ []) was is ∙ sym (map_more f xs i d low))

-- and where the loop goes over `zs` and doesn't copy its items
pub next_mapped : {X Y : Type 0} (f : X → Y) (xs zs : List X) (ys new : List Y) (i : ℕ) (x : X) (y : Y) → zs ≡ xs → i < length zs
    → x ≡ get_or zs i x → ys ≡ map f (take i xs) → y ≡ f x → new ≡ ys ++ y ∷ [] → new ≡ map f (take (i + 1) xs)
next_mapped {X = X} {Y = Y} f xs zs ys new i x y same low at was is more =
    subst (λ (us : List X). new ≡ map f (take (i + 1) us)) same
    (next_copied f zs ys new i x y low (was ∙ ap (λ (us : List X). map f (take i us)) (sym same)) (is ∙ ap f at) more)
