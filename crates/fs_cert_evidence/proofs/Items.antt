-- Lemmas on the items of a JSON array, one after the other.
use Rattle.std.proofs.Common.{◌≡◌, ℕ, zero, suc, ◌<◌, List, [], ◌∷◌, ◌++◌, length, get_or, arith, Some, subst, sym, ap, ◌∙◌, ◌+◌, take, add-one, map, refl, String, Global, option_map}
use Rattle.std.proofs.lemmas.List.{map-append}
use Rattle.std.proofs.Math.Seq.{take-suc}
use Rattle.serde_json.specs.Data.{Data}
use Rattle.serde_json.specs.Events.{members_len}
use Rattle.serde_json.specs.Find.{as_array, as_object}
use Rattle.serde_json.specs.View.{view, items_view, members_view}
use Rattle.serde_json.specs.declared.value.Value.{Value}
use Rattle.fs_cert_evidence.specs.WitnessFile.{EachItem, IsArrayOf}

-- one item more
pub each_more : {A : Type 0} (P : Data → A → Type 0) (vs : List Value) (v : Value) (xs : List A) (x : A) → EachItem P (items_view vs) xs → P (view v) x → EachItem P (items_view (vs ++ v ∷ [])) (xs ++ x ∷ [])
each_more P [] v [] x so_far here = (here, tt)
each_more P [] v (y ∷ xs) x so_far here = absurd so_far
each_more P (u ∷ vs) v [] x so_far here = absurd so_far
each_more P (u ∷ vs) v (y ∷ xs) x so_far here = (so_far.0, each_more P vs v xs x so_far.1 here)

pub item_next : {A : Type 0} (P : Data → A → Type 0) (vs : List Value) (i : ℕ) (v : Value) (xs : List A) (x : A) → EachItem P (items_view (take i vs)) xs → i < length vs → v ≡ get_or vs i v → P (view v) x → EachItem P (items_view (take (i + 1) vs)) (xs ++ x ∷ [])
item_next P vs i v xs x so_far low here stands =
    let next : take (i + 1) vs ≡ take i vs ++ (v ∷ []) = ap (λ n. take n vs) (add-one i) ∙ (take-suc vs i v low ∙ ap (λ u. take i vs ++ (u ∷ [])) (sym here)) in
    subst (λ us. EachItem P (items_view us) (xs ++ x ∷ [])) (sym next) (each_more P (take i vs) v xs x so_far stands)

-- one value more under f
pub name_next : {A B : Type 0} (f : A → B) (all ys : List B) (y : B) (xs : List A) (x : A) → all ≡ ys ++ y ∷ [] → ys ≡ map f xs → y ≡ f x → all ≡ map f (xs ++ x ∷ [])
name_next f all ys y xs x added so_far here = added ∙ (ap (λ zs. zs ++ y ∷ []) so_far ∙ (ap (λ z. map f xs ++ z ∷ []) here ∙ sym (map-append f xs (x ∷ []))))

-- each of the items stands for some value
pub each_at : {A : Type 0} (P : Data → A → Type 0) (vs : List Value) (xs : List A) (i : ℕ) (d : Value) → EachItem P (items_view vs) xs → i < length vs → (x : A) × P (view (get_or vs i d)) x
each_at P [] xs i d each low = absurd (omega arith)
each_at P (v ∷ vs) [] i d each low = absurd each
each_at P (v ∷ vs) (x ∷ xs) zero d each low = (x, each.0)
each_at P (v ∷ vs) (x ∷ xs) (suc i) d each low = each_at P vs xs i d each.1 (omega arith)

-- an array with an item that stands for nothing stands for nothing
pub refused_item : {A : Type 0} (P : Data → A → Type 0) (d : Data) (vs : List Value) (i : ℕ) (v : Value) → Some (items_view vs) ≡ as_array d → i < length vs → v ≡ get_or vs i v → ((x : A) → ¬ P (view v) x) → (xs : List A) → ¬ IsArrayOf P d xs
refused_item {A} P d vs i v is low here refused xs h =
    let same : h.0 ≡ items_view vs = cc in
    let each : EachItem P (items_view vs) xs = subst (λ ds. EachItem P ds xs) same h.2 in
    let found = each_at P vs xs i v each low in
    refused found.0 (subst (λ u. P (view u) found.0) (sym here) found.1)

-- an object has as many members as its entries
length-members : (es : List (String Global × Value)) → members_len (members_view es) ≡ length es
length-members [] = refl
length-members (e ∷ es) = ap suc (length-members es)

pub keys_view : (d : Data) (es : List (String Global × Value)) → Some (members_view es) ≡ as_object d → option_map members_len (as_object d) ≡ Some (length es)
keys_view d es is = ap (option_map members_len) (sym is) ∙ ap Some (length-members es)
