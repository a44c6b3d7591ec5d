-- Lists that are read from arrays, item by item.
use Rattle.std.proofs.Common.{◌≡◌, ℕ, suc, ◌+◌, ◌<◌, List, [], ◌∷◌, ◌++◌, length, get_or, take, map, refl, ap, sym, subst, ◌∙◌}
use Rattle.std.proofs.lemmas.List.{map-append}
use Rattle.std.specs.List.{AllZip}
use Rattle.serde_json.specs.Data.{Data, Items, no_items, item}
use Rattle.serde_json.specs.View.{view, items_view}
use Rattle.serde_json.specs.declared.value.Value.{Value}
use Rattle.fs_cert_evidence.specs.WitnessFile.{EachItem, IsArrayOf}
use Rattle.fs_cert_evidence.proofs.Items.{item_next}

-- what f makes of one value more stands for one item more
pub mapped_next : {A B : Type 0} (P : Data → B → Type 0) (f : A → B) (vs : List Value) (i : ℕ) (v : Value) (all ys : List A) (y : A)
    → all ≡ ys ++ y ∷ [] → EachItem P (items_view (take i vs)) (map f ys) → i < length vs → v ≡ get_or vs i v → P (view v) (f y)
    → EachItem P (items_view (take (i + 1) vs)) (map f all)
mapped_next P f vs i v all ys y pushed so_far low here says =
    let mapped : map f all ≡ map f ys ++ f y ∷ [] = ap (map f) pushed ∙ map-append f ys (y ∷ []) in
    subst (EachItem P (items_view (take (i + 1) vs))) (sym mapped) (item_next P vs i v (map f ys) (f y) so_far low here says)

-- the items stand for values that are kept as these
abbrev pub AreKept : {X Y : Type 0} → (Data → X → Type 0) → (Y → X → Type 0) → Items → List Y → Type 0
AreKept {X} P Keeps ds ys = (xs : List X) × EachItem P ds xs × AllZip Keeps ys xs

pub zip_push : {X Y : Type 0} (Keeps : Y → X → Type 0) (ys : List Y) (xs : List X) (y : Y) (x : X) → AllZip Keeps ys xs → Keeps y x
    → AllZip Keeps (ys ++ y ∷ []) (xs ++ x ∷ [])
zip_push Keeps [] [] y x each here = (here, tt)
zip_push Keeps [] (u ∷ xs) y x each here = absurd each
zip_push Keeps (v ∷ ys) [] y x each here = absurd each
zip_push Keeps (v ∷ ys) (u ∷ xs) y x each here = (each.0, zip_push Keeps ys xs y x each.1 here)

pub kept_next : {X Y : Type 0} (P : Data → X → Type 0) (Keeps : Y → X → Type 0) (vs : List Value) (i : ℕ) (v : Value) (all ys : List Y) (y : Y) (x : X)
    → all ≡ ys ++ y ∷ [] → AreKept P Keeps (items_view (take i vs)) ys → i < length vs → v ≡ get_or vs i v → P (view v) x → Keeps y x
    → AreKept P Keeps (items_view (take (i + 1) vs)) all
kept_next P Keeps vs i v all ys y x pushed so_far low here says keeps = (
  so_far.0 ++ x ∷ [],
  item_next P vs i v so_far.0 x so_far.1 low here says,
  subst (λ l. AllZip Keeps l (so_far.0 ++ x ∷ [])) (sym pushed) (zip_push Keeps ys so_far.0 y x so_far.2 keeps),
)

-- there are as many items as values
pub as_long : {A : Type 0} (P : Data → A → Type 0) (vs : List Value) (xs : List A) → EachItem P (items_view vs) xs → length vs ≡ length xs
as_long P [] [] each = refl
as_long P [] (x ∷ xs) each = absurd each
as_long P (v ∷ vs) [] each = absurd each
as_long P (v ∷ vs) (x ∷ xs) each = ap suc (as_long P vs xs each.1)

-- two readings of an array are as long
both_long : {A B : Type 0} (P : Data → A → Type 0) (Q : Data → B → Type 0) (ds : Items) (xs : List A) (ys : List B) → EachItem P ds xs → EachItem Q ds ys → length xs ≡ length ys
both_long P Q no_items [] [] left right = refl
both_long P Q no_items (x ∷ xs) ys left right = absurd left
both_long P Q no_items [] (y ∷ ys) left right = absurd right
both_long P Q (item d ds) [] ys left right = absurd left
both_long P Q (item d ds) (x ∷ xs) [] left right = absurd right
both_long P Q (item d ds) (x ∷ xs) (y ∷ ys) left right = ap suc (both_long P Q ds xs ys left.1 right.1)

pub same_long : {A B : Type 0} (P : Data → A → Type 0) (Q : Data → B → Type 0) (d : Data) (xs : List A) (ys : List B) → IsArrayOf P d xs → IsArrayOf Q d ys → length xs ≡ length ys
same_long P Q d xs ys left right =
    let same : right.0 ≡ left.0 = (let l = left.1 in let r = right.1 in cc) in
    both_long P Q left.0 xs ys left.2 (subst (λ ds. EachItem Q ds ys) same right.2)
