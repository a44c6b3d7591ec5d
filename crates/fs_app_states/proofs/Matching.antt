-- Lists that match item by item.
use Rattle.std.proofs.Common.{◌≡◌, ◌∙◌, ap, sym, subst, ℕ, ◌+◌, ◌<◌, List, [], ◌∷◌, ◌++◌, Bool, true, false, not, ◌&&◌, ◌||◌, refl, length, take, map}
use Rattle.std.specs.List.{All, AllZip, list_any, slice_index_or}
use Rattle.std.proofs.lemmas.List.{append_assoc, map-append, take_more}
use Rattle.std.proofs.lemmas.List.Elements.{All-push}
use Rattle.std.proofs.lemmas.List.Folds.{list_any-append}
use Rattle.fs_model.specs.declared.test.Test.{Test}
use Rattle.fs_judge_outcomes.specs.States.{ArePlacesOf, IsPlaceOf}
use Rattle.fs_app_states.specs.declared.columns.Column.{Column}
use Rattle.fs_app_states.specs.Rows.{are_apart, is_place}

pub zip_push : {A B : Type 0} (R : A → B → Type 0) (xs : List A) (ys : List B) (x : A) (y : B) → AllZip R xs ys → R x y
    → AllZip R (xs ++ x ∷ []) (ys ++ y ∷ [])
zip_push R [] [] x y all one = (one, tt)
zip_push R [] (z ∷ ys) x y all one = absurd all
zip_push R (z ∷ xs) [] x y all one = absurd all
zip_push R (z ∷ xs) (w ∷ ys) x y all one = (all.0, zip_push R xs ys x y all.1 one)

-- one item more of those so far, which stand behind others
pub zip_next : {A B C : Type 0} (R : A → C → Type 0) (f : B → C) (before xs : List A) (ys : List B) (i : ℕ) (x : A) (y : B)
    → i < length xs → x ≡ slice_index_or xs i x → AllZip R (before ++ take i xs) (map f ys) → R x (f y)
    → AllZip R (before ++ take (i + 1) xs) (map f (ys ++ y ∷ []))
zip_next {A} {B} {C} R f before xs ys i x y low is all one =
    subst (λ (zs : List A). AllZip R zs (map f (ys ++ y ∷ [])))
    (append_assoc before (take i xs) (x ∷ []) ∙ ap (λ (zs : List A). before ++ zs)
    (sym (take_more xs i x low ∙ ap (λ (z : A). take i xs ++ z ∷ []) (sym is))))
    (subst (λ (zs : List C). AllZip R ((before ++ take i xs) ++ x ∷ []) zs) (sym (map-append f ys (y ∷ [])))
    (zip_push R (before ++ take i xs) (map f ys) x (f y) all one))

-- ---- places

and_left : (a b : Bool) → (a && b) ≡ true → a ≡ true
and_left true b h = refl
and_left false b h = h

and_right : (a b : Bool) → (a && b) ≡ true → b ≡ true
and_right true b h = h
and_right false b h = absurd (cc h)

and_both : (a b : Bool) → a ≡ true → b ≡ true → (a && b) ≡ true
and_both true b h k = k
and_both false b h k = h

or_left : (a b : Bool) → (a || b) ≡ false → a ≡ false
or_left true b h = h
or_left false b h = refl

or_right : (a b : Bool) → (a || b) ≡ false → b ≡ false
or_right true b h = absurd (cc h)
or_right false b h = h

neither : (a b : Bool) → not a ≡ true → b ≡ false → not (a || (b || false)) ≡ true
neither true b h k = h
neither false true h k = cc k
neither false false h k = refl

-- a place that is none of these may stand behind them
pub apart_push : (columns : List Column) (column : Column) → are_apart (map (λ c. c.place) columns) ≡ true
    → list_any (λ c. is_place c.place column.place) columns ≡ false
    → are_apart (map (λ c. c.place) (columns ++ column ∷ [])) ≡ true
apart_push [] column all none = refl
apart_push (c ∷ columns) column all none =
    let rest : are_apart (map (λ d. d.place) columns) ≡ true = and_right _ _ all in
    let others : list_any (λ d. is_place d.place column.place) columns ≡ false = or_right _ _ none in
    and_both _ _
    (ap not (ap (list_any (is_place c.place)) (map-append (λ d. d.place) columns (column ∷ []))
    ∙ list_any-append (is_place c.place) (map (λ d. d.place) columns) (column.place ∷ []))
    ∙ neither _ _ (and_left _ _ all) (or_left _ _ none))
    (apart_push columns column rest others)

-- a place of the test may stand behind its places
pub own_push : (t : Test) (columns : List Column) (column : Column) → ArePlacesOf t (map (λ c. c.place) columns)
    → IsPlaceOf (length t.codes) (length t.locations) column.place
    → ArePlacesOf t (map (λ c. c.place) (columns ++ column ∷ []))
own_push t columns column all one =
    subst (All (IsPlaceOf (length t.codes) (length t.locations))) (sym (map-append (λ c. c.place) columns (column ∷ [])))
    (All-push (IsPlaceOf (length t.codes) (length t.locations)) (map (λ c. c.place) columns) column.place all one)
