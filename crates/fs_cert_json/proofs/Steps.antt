-- Arrays that are written item by item.
use Rattle.std.proofs.Common.{◌≡◌, ℕ, ◌+◌, ◌<◌, ◌≤◌, List, [], ◌∷◌, ◌++◌, length, get_or, take, map, All, Some, refl, ap, sym, subst, ◌∙◌, arith, Option, String, Global, string_bytes}
use Rattle.std.proofs.lemmas.Bool.Decides.{nat_tests}
use Rattle.std.proofs.lemmas.List.{take_more, take_all}
use Rattle.std.proofs.lemmas.List.Elements.{All-head, All-tail}
use Rattle.std.specs.List.{AllZip}
use Rattle.serde_json.specs.Data.{Data, Items, array, string, no_items, item}
use Rattle.serde_json.specs.View.{view, items_view}
use Rattle.serde_json.specs.declared.value.Value.{Value}
use Rattle.fs_kinds.specs.declared.reason.OperationName.{OperationName as Name}
use Rattle.fs_cert_evidence.specs.Inferences.{inference_of}
use Rattle.fs_cert_evidence.specs.declared.inference.Inference.{Inference as KeptInference}
use Rattle.fs_cert_evidence.specs.Texts.{items_of, array_of, inference_value, item_value}
use Rattle.fs_cert_evidence.specs.WitnessFile.{EachItem, in_range}
use Rattle.fs_cert_evidence.proofs.Items.{each_more}
use Rattle.fs_cert_evidence.specs.WitnessFile.{IsInRange}
use Rattle.fs_cert_json.specs.Kept.{item_of}
use Rattle.fs_cert_json.specs.declared.certificate.Item.{Item as Kept}
use Rattle.fs_cert_json.specs.inner.Written.{Writes, WritesArray, IsKeptName, kept_inference_value, kept_item_value, text_value}

-- the value is what f makes of x
abbrev pub Is : {A : Type 0} → (A → Data) → Data → A → Type 0
Is f d x = d ≡ f x

-- one item more
pub each_next : {A : Type 0} (P : Data → A → Type 0) (xs : List A) (i : ℕ) (d : A) (vs ws : List Value) (v : Value) → i < length xs
    → ws ≡ vs ++ v ∷ [] → P (view v) (get_or xs i d) → EachItem P (items_view vs) (take i xs) → EachItem P (items_view ws) (take (i + 1) xs)
each_next P xs i d vs ws v low pushed says before =
    subst (λ us. EachItem P (items_view us) (take (i + 1) xs)) (sym pushed)
    (subst (EachItem P (items_view (vs ++ v ∷ []))) (sym (take_more xs i d low)) (each_more P vs v (take i xs) (get_or xs i d) before says))

-- all of them
are_items : {A : Type 0} (f : A → Data) (ds : Items) (xs : List A) → EachItem (Is f) ds xs → ds ≡ items_of (map f xs)
are_items f no_items [] each = refl
are_items f no_items (x ∷ xs) each = absurd each
are_items f (item d ds) [] each = absurd each
are_items f (item d ds) (x ∷ xs) each =
    let first : d ≡ f x = each.0 in
    let rest : ds ≡ items_of (map f xs) = are_items f ds xs each.1 in
    cc

pub is_array : {A : Type 0} (f : A → Data) (d : Data) (vs : List Value) (xs : List A) (i : ℕ) → length xs ≤ i → d ≡ array (items_view vs)
    → EachItem (Is f) (items_view vs) (take i xs) → d ≡ array_of (map f xs)
is_array f d vs xs i all is each =
    is ∙ ap array (are_items f (items_view vs) xs (subst (EachItem (Is f) (items_view vs)) (take_all i xs all) each))

module _ {X Y : Type 0} (Keeps : Y → X → Type 0) (HasNames : X → Type 0) (value : X → Data) where
  are_written : (ds : Items) (ys : List Y) (xs : List X) → EachItem (Writes Keeps HasNames value) ds ys → AllZip Keeps ys xs → All HasNames xs → ds ≡ items_of (map value xs)
  are_written no_items [] [] each keeps names = refl
  are_written no_items [] (x ∷ xs) each keeps names = absurd keeps
  are_written no_items (y ∷ ys) xs each keeps names = absurd each
  are_written (item d ds) [] xs each keeps names = absurd each
  are_written (item d ds) (y ∷ ys) [] each keeps names = absurd keeps
  are_written (item d ds) (y ∷ ys) (x ∷ xs) each keeps names =
      let first : d ≡ value x = each.0 x keeps.0 (All-head HasNames x xs names) in
      let rest : ds ≡ items_of (map value xs) = are_written ds ys xs each.1 keeps.1 (All-tail HasNames x xs names) in
      cc

  pub writes_array : (d : Data) (vs : List Value) (ys : List Y) (i : ℕ) → length ys ≤ i → d ≡ array (items_view vs)
      → EachItem (Writes Keeps HasNames value) (items_view vs) (take i ys) → WritesArray Keeps HasNames value d ys
  writes_array d vs ys i all is each xs keeps names =
      is ∙ ap array (are_written (items_view vs) ys xs (subst (EachItem (Writes Keeps HasNames value) (items_view vs)) (take_all i ys all) each) keeps names)

-- ---- names

pub in_range-is : (name : Name) → IsInRange name → in_range name ≡ Some name
in_range-is name low = let hart = low.0 in let at = low.1 in grind (arith, nat_tests)

pub zip_names : (ys : List (Option Name)) (xs : List Name) → ys ≡ map in_range xs → AllZip IsKeptName ys xs
zip_names [] [] e = tt
zip_names [] (x ∷ xs) e = absurd (cc)
zip_names (y ∷ ys) [] e = absurd (cc)
zip_names (y ∷ ys) (x ∷ xs) e =
    let first : y ≡ in_range x = cc in
    let rest : ys ≡ map in_range xs = cc in
    (first, zip_names ys xs rest)

-- ---- trees

pub map_items : (ys : List Kept) → map kept_item_value ys ≡ map item_value (map item_of ys)
map_items [] = refl
map_items (y ∷ ys) = ap (λ ds. kept_item_value y ∷ ds) (map_items ys)

-- ---- inferences

pub map_inferences : (ys : List KeptInference) → map kept_inference_value ys ≡ map inference_value (map inference_of ys)
map_inferences [] = refl
map_inferences (y ∷ ys) = ap (λ ds. kept_inference_value y ∷ ds) (map_inferences ys)

-- ---- texts

pub map_texts : (ys : List (String Global)) → map text_value ys ≡ map (λ text. string text) (map string_bytes ys)
map_texts [] = refl
map_texts (y ∷ ys) = ap (λ ds. text_value y ∷ ds) (map_texts ys)
