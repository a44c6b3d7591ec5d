-- A text has one meaning.
use Rattle.std.proofs.Common.{◌≡◌, ℕ, List, [], ◌∷◌, refl, ap, subst, ◌∙◌}
use Rattle.serde_json.specs.Data.{Data, Items, no_items, item}
use Rattle.fs_kinds.specs.declared.reason.OperationName.{OperationName as Name}
use Rattle.fs_model.specs.declared.step.Choice.{Choice}
use Rattle.fs_model.specs.Witness.{Witness}
use Rattle.fs_cert_evidence.specs.WitnessFile.{EachItem, IsArrayOf, IsChoice, IsName, IsWitnessValue, IsWitnessFile}
use Rattle.fs_kinds.specs.PlaceNames.{IsOperationName}
use Rattle.fs_kinds.proofs.PlaceNames.{text-once}

-- P holds of one value at most
abbrev pub Once : {A : Type 0} → (Data → A → Type 0) → Type 0
Once {A} P = (d : Data) (x y : A) → P d x → P d y → x ≡ y

each-once : {A : Type 0} (P : Data → A → Type 0) → Once P → (ds : Items) (xs ys : List A) → EachItem P ds xs → EachItem P ds ys → xs ≡ ys
each-once P once no_items [] [] left right = refl
each-once P once no_items (x ∷ xs) ys left right = absurd left
each-once P once no_items [] (y ∷ ys) left right = absurd right
each-once P once (item d ds) [] ys left right = absurd left
each-once P once (item d ds) (x ∷ xs) [] left right = absurd right
each-once P once (item d ds) (x ∷ xs) (y ∷ ys) left right =
    let first : x ≡ y = once d x y left.0 right.0 in
    let rest : xs ≡ ys = each-once P once ds xs ys left.1 right.1 in
    cc

array-once : {A : Type 0} (P : Data → A → Type 0) → Once P → Once (IsArrayOf P)
array-once P once d xs ys left right =
    let same : right.0 ≡ left.0 = (let l = left.1 in let r = right.1 in cc) in
    each-once P once left.0 xs ys left.2 (subst (λ ds. EachItem P ds ys) same right.2)

choice-once : Once IsChoice
choice-once d x y left right = cc

name-once : Once IsName
name-once d x y left right =
    let same : right.0 ≡ left.0 = (let l = left.1 in let r = right.1 in cc) in
    text-once left.0 x y left.2 (subst (λ text. IsOperationName text y) same right.2)

abbrev witness : List (List Choice) → List Name → Witness
witness choices order = record { choices = choices; order = order }

pub value-once : Once IsWitnessValue
value-once d w v left right =
    let lists : right.lists ≡ left.lists = (let l = left.pair.choices in let r = right.pair.choices in cc) in
    let names : right.names ≡ left.names = (let l = left.pair.order in let r = right.pair.order in cc) in
    let choices : w.choices ≡ v.choices = array-once (IsArrayOf IsChoice) (array-once IsChoice choice-once) left.lists w.choices v.choices left.choices (subst (λ e. IsArrayOf (IsArrayOf IsChoice) e v.choices) lists right.choices) in
    let order : w.order ≡ v.order = array-once IsName name-once left.names w.order v.order left.order (subst (λ e. IsArrayOf IsName e v.order) names right.order) in
    ap (λ c. witness c w.order) choices ∙ ap (witness v.choices) order

pub file-once : (harts : ℕ) (bytes : List ℕ) (w v : Witness) → IsWitnessFile harts bytes w → IsWitnessFile harts bytes v → w ≡ v
file-once harts bytes w v left right =
    let same : right.value ≡ left.value = (let l = left.reads in let r = right.reads in cc) in
    value-once left.value w v left.says (subst (λ d. IsWitnessValue d v) same right.says)
