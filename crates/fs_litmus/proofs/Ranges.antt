-- Lists with an item for each number below a bound.
use Rattle.std.proofs.Common.{◌≡◌, ℕ, ◌+◌, List, [], ◌∷◌, ◌++◌, map, take, get_or, Some, sym, ap, ◌∙◌, arith}
use Rattle.std.specs.List.{range_with_len}
use Rattle.std.specs.Prelude.{slice_get, unwrap_or}
use Rattle.std.proofs.lemmas.List.{map-append, take_more}
use Rattle.std.proofs.lemmas.Option.{slice_get_within, unwrap_or-slice_get}
use Rattle.std.proofs.lemmas.List.FromFn.{map-range_with_len_more}

pub one_more : {X : Type 0} (f : ℕ → X) (n : ℕ) (xs new : List X) (x : X) → new ≡ xs ++ x ∷ [] → xs ≡ map f (range_with_len 0 n) → x ≡ f n → new ≡ map f (range_with_len 0 (n + 1))
one_more f n xs new x pushed before e =
    pushed ∙ ap (λ l. l ++ x ∷ []) before ∙ ap (λ y. map f (range_with_len 0 n) ++ y ∷ []) e ∙ sym (map-range_with_len_more f 0 n n (omega arith))

pub mapped_push : {X Y : Type 0} (f : X → Y) (xs new : List X) (x : X) → new ≡ xs ++ x ∷ [] → map f new ≡ map f xs ++ f x ∷ []
mapped_push f xs new x e = ap (map f) e ∙ map-append f xs (x ∷ [])

taken_more : {X : Type 0} (xs : List X) (k : ℕ) (x : X) → slice_get xs k ≡ Some x → take k xs ++ x ∷ [] ≡ take (k + 1) xs
taken_more xs k x e =
    let same : get_or xs k x ≡ x = sym (unwrap_or-slice_get xs k x) ∙ ap (λ o. unwrap_or o x) e in
    ap (λ z. take k xs ++ z ∷ []) (sym same) ∙ sym (take_more xs k x (slice_get_within xs k x e))

pub one_more_taken : {X : Type 0} (names : List X) (k : ℕ) (xs new : List X) (x y : X) → new ≡ xs ++ x ∷ [] → xs ≡ take k names → x ≡ y → slice_get names k ≡ Some y → new ≡ take (k + 1) names
one_more_taken names k xs new x y pushed before same e =
    pushed ∙ ap (λ l. l ++ x ∷ []) before ∙ ap (λ z. take k names ++ z ∷ []) same ∙ taken_more names k y e
