-- Lists that are copied item by item.
use Rattle.std.proofs.Common.{◌≡◌, ℕ, ◌+◌, ◌<◌, ◌≤◌, List, [], ◌∷◌, ◌++◌, map, length, get_or, take, ap, sym, subst, ◌∙◌}
use Rattle.std.proofs.lemmas.List.{append_assoc, take_more, take_all}
use Rattle.std.specs.List.{AllZip}

pub zip_push : {X Y : Type 0} (R : Y → X → Type 0) (ys : List Y) (xs : List X) (y : Y) (x : X) → AllZip R ys xs → R y x
    → AllZip R (ys ++ y ∷ []) (xs ++ x ∷ [])
zip_push R [] [] y x each here = (here, tt)
zip_push R [] (u ∷ xs) y x each here = absurd each
zip_push R (v ∷ ys) [] y x each here = absurd each
zip_push R (v ∷ ys) (u ∷ xs) y x each here = (each.0, zip_push R ys xs y x each.1 here)

-- one item more of a list that is gone through by its numbers
pub zip_next : {X Y : Type 0} (R : Y → X → Type 0) (all ys : List Y) (y : Y) (xs : List X) (i : ℕ) (x : X) → all ≡ ys ++ y ∷ []
    → AllZip R ys (take i xs) → i < length xs → x ≡ get_or xs i x → R y x → AllZip R all (take (i + 1) xs)
zip_next R all ys y xs i x pushed so_far low here holds =
    let more : take (i + 1) xs ≡ take i xs ++ x ∷ [] = take_more xs i x low ∙ ap (λ z. take i xs ++ z ∷ []) (sym here) in
    subst (λ l. AllZip R l (take (i + 1) xs)) (sym pushed)
    (subst (AllZip R (ys ++ y ∷ [])) (sym more) (zip_push R ys (take i xs) y x so_far holds))

-- the same, of an item that isn't named
pub zip_add : {X Y : Type 0} (R : Y → X → Type 0) (all ys : List Y) (y : Y) (xs : List X) (i : ℕ) (d : X) → all ≡ ys ++ y ∷ []
    → AllZip R ys (take i xs) → i < length xs → R y (get_or xs i d) → AllZip R all (take (i + 1) xs)
zip_add R all ys y xs i d pushed so_far low holds =
    subst (λ l. AllZip R l (take (i + 1) xs)) (sym pushed)
    (subst (AllZip R (ys ++ y ∷ [])) (sym (take_more xs i d low)) (zip_push R ys (take i xs) y (get_or xs i d) so_far holds))

-- and all of them
pub zip_whole : {X Y : Type 0} (R : Y → X → Type 0) (ys : List Y) (xs : List X) (i : ℕ) → length xs ≤ i → AllZip R ys (take i xs) → AllZip R ys xs
zip_whole R ys xs i high each = subst (AllZip R ys) (take_all i xs high) each

-- one item more, after others
pub zip_on : {X Y : Type 0} (R : Y → X → Type 0) (all ys : List Y) (y : Y) (before xs : List X) (i : ℕ) (x : X) → all ≡ ys ++ y ∷ []
    → AllZip R ys (before ++ take i xs) → i < length xs → x ≡ get_or xs i x → R y x → AllZip R all (before ++ take (i + 1) xs)
zip_on R all ys y before xs i x pushed so_far low here holds =
    let more : take (i + 1) xs ≡ take i xs ++ x ∷ [] = take_more xs i x low ∙ ap (λ z. take i xs ++ z ∷ []) (sym here) in
    let joined : before ++ take (i + 1) xs ≡ (before ++ take i xs) ++ x ∷ [] =
    ap (λ l. before ++ l) more ∙ sym (append_assoc before (take i xs) (x ∷ [])) in
    subst (λ l. AllZip R l (before ++ take (i + 1) xs)) (sym pushed)
    (subst (AllZip R (ys ++ y ∷ [])) (sym joined) (zip_push R ys (before ++ take i xs) y x so_far holds))

-- where the second ones are made of others
pub zip_made : {W X Y : Type 0} (R : Y → X → Type 0) (f : W → X) (ys : List Y) (ws : List W) → AllZip (λ y w. R y (f w)) ys ws
    → AllZip R ys (map f ws)
zip_made R f [] [] each = tt
zip_made R f [] (w ∷ ws) each = absurd each
zip_made R f (y ∷ ys) [] each = absurd each
zip_made R f (y ∷ ys) (w ∷ ws) each = (each.0, zip_made R f ys ws each.1)
