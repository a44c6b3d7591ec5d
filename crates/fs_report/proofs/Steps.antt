-- A list that is written item by item.
use Rattle.std.proofs.Common.{◌≡◌, ℕ, ◌+◌, ◌<◌, List, [], ◌∷◌, ◌++◌, length, get_or, take, map, flat_map, refl, ap, sym, subst, ◌∙◌}
use Rattle.std.proofs.lemmas.List.{take_more, append_assoc, append-nil}
use Rattle.std.proofs.lemmas.List.Concat.{flat_map-append}
use Rattle.serde_json.specs.Data.{Data, array, Items, no_items, item}
use Rattle.serde_json.specs.View.{view, items_view}
use Rattle.serde_json.specs.declared.value.Value.{Value}
use Rattle.fs_cert_evidence.specs.Texts.{items_of}
use Rattle.fs_cert_evidence.specs.WitnessFile.{EachItem}
use Rattle.fs_cert_evidence.proofs.Items.{each_more}
use Rattle.fs_report.specs.inner.Written.{SaysAs, SaysArray}

-- one item more in a text
pub text_next : {A : Type 0} (f : A → List ℕ) (xs : List A) (i : ℕ) (x : A) (start old new : List ℕ) → i < length xs → x ≡ get_or xs i x
    → new ≡ old ++ f x → old ≡ start ++ flat_map f (take i xs) → new ≡ start ++ flat_map f (take (i + 1) xs)
text_next f xs i x start old new low here grown before =
    let wanted : flat_map f (take (i + 1) xs) ≡ flat_map f (take i xs) ++ f x =
    ap (flat_map f) (take_more xs i x low ∙ ap (λ y. take i xs ++ y ∷ []) (sym here)) ∙ flat_map-append f (take i xs) (x ∷ []) ∙ ap (λ ys. flat_map f (take i xs) ++ ys) (append-nil (f x)) in
    let grouped = append_assoc start (flat_map f (take i xs)) (f x) in
    cc

-- one item more in an array
pub each_next : {A : Type 0} (P : Data → A → Type 0) (xs : List A) (i : ℕ) (d : A) (vs ws : List Value) (v : Value) → i < length xs
    → ws ≡ vs ++ v ∷ [] → P (view v) (get_or xs i d) → EachItem P (items_view vs) (take i xs) → EachItem P (items_view ws) (take (i + 1) xs)
each_next P xs i d vs ws v low pushed says before =
    subst (λ us. EachItem P (items_view us) (take (i + 1) xs)) (sym pushed)
    (subst (EachItem P (items_view (vs ++ v ∷ []))) (sym (take_more xs i d low)) (each_more P vs v (take i xs) (get_or xs i d) before says))

-- values that are what is written for the items, and say them
in_parts : {A : Type 0} (f : A → Data) (P : Data → A → Type 0) (ds : Items) (xs : List A) → EachItem (SaysAs f P) ds xs → (ds ≡ items_of (map f xs)) × EachItem P ds xs
in_parts f P no_items [] each = (refl, tt)
in_parts f P no_items (x ∷ xs) each = absurd each
in_parts f P (item d ds) [] each = absurd each
in_parts f P (item d ds) (x ∷ xs) each =
    let rest = in_parts f P ds xs each.1 in
    let first : d ≡ f x = each.0.0 in
    let others : ds ≡ items_of (map f xs) = rest.0 in
    (cc, (each.0.1, rest.1))

-- their array
pub says_array : {A : Type 0} (f : A → Data) (P : Data → A → Type 0) (d : Data) (vs : List Value) (xs : List A) → d ≡ array (items_view vs)
    → EachItem (SaysAs f P) (items_view vs) xs → SaysArray f P d xs
says_array f P d vs xs is each =
    let parts = in_parts f P (items_view vs) xs each in
    subst (λ e. SaysArray f P e xs) (sym is) (ap array parts.0, (items_view vs, refl, parts.1))
