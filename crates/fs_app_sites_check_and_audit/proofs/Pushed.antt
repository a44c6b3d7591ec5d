-- The step of a loop that pushes one item for each of a list, and its end.
use Rattle.std.proofs.Common.{◌≡◌, ◌<◌, ◌≤◌, ◌+◌, ℕ, List, [], ◌∷◌, ◌++◌, length, get_or, take, drop, map, sym, ap, ◌∙◌}
use Rattle.std.specs.List.{enumerate_from}
use Rattle.std.proofs.lemmas.List.{append_assoc, append-nil, drop_all, drop_more}
use Rattle.fs_model.proofs.Numbered.{map_numbered}

-- one more of those with numbers
pub pushed_numbered : {X Y : Type 0} (f : ℕ × X → Y) (xs : List X) (i : ℕ) (x : X) (old new : List Y) (y : Y) → i < length xs
    → x ≡ get_or xs i x → new ≡ old ++ y ∷ [] → y ≡ f (i, x) → old ≡ map f (take i (enumerate_from 0 xs))
    → new ≡ map f (take (i + 1) (enumerate_from 0 xs))
pushed_numbered f xs i x old new y low at pushed value before =
    let wanted = map_numbered f xs i x low in
    let found = ap (λ z. f (i, z)) at in
    cc

-- with what is left of those that are seen so
pub pushed_rest : {X Z Y : Type 0} (f : ℕ × Z → Y) (g : X → Z) (xs : List X) (i : ℕ) (x : X) (old new all : List Y) (y : Y)
    → i < length xs → x ≡ get_or xs i x → new ≡ old ++ y ∷ [] → y ≡ f (i, g x)
    → old ++ map f (enumerate_from i (map g (drop i xs))) ≡ all
    → new ++ map f (enumerate_from (i + 1) (map g (drop (i + 1) xs))) ≡ all
pushed_rest f g xs i x old new all y low at pushed value before =
    let rest = map f (enumerate_from (i + 1) (map g (drop (i + 1) xs))) in
    let more : drop i xs ≡ x ∷ drop (i + 1) xs = drop_more xs i x low ∙ ap (λ z. z ∷ drop (i + 1) xs) (sym at) in
    ap (λ ys. ys ++ rest) pushed
    ∙ append_assoc old (y ∷ []) rest
    ∙ ap (λ z. old ++ z ∷ rest) value
    ∙ sym (ap (λ zs. old ++ map f (enumerate_from i (map g zs))) more)
    ∙ before

pub rest_end : {X Z Y : Type 0} (f : ℕ × Z → Y) (g : X → Z) (xs : List X) (i : ℕ) (old all : List Y) → length xs ≤ i
    → old ++ map f (enumerate_from i (map g (drop i xs))) ≡ all → old ≡ all
rest_end f g xs i old all past before =
    sym (append-nil old) ∙ sym (ap (λ zs. old ++ map f (enumerate_from i (map g zs))) (drop_all i xs past)) ∙ before
