-- What a value says of an inference, and why it is none.
use Rattle.std.proofs.Common.{◌≡◌, ℕ, ◌≤◌, List, [], ◌∷◌, Option, Some, None, MatchOption, length, get_or, refl, ap, sym, subst, ◌∙◌, arith, codes}
use Rattle.std.proofs.lemmas.Bool.Decides.{nat_tests}
use Rattle.std.proofs.lemmas.List.Elements.{All-nil, All-cons, All-head, All-tail}
use Rattle.serde_json.specs.Data.{Data, Items, null, boolean, number, string, array, object, no_items, item}
use Rattle.serde_json.specs.Find.{as_array}
use Rattle.serde_json.specs.View.{view, items_view}
use Rattle.serde_json.specs.declared.value.Value.{Value}
use Rattle.fs_kinds.specs.PlaceNames.{IsOperationName}
use Rattle.fs_kinds.specs.declared.reason.OperationName.{OperationName as Name}
use Rattle.fs_kinds.proofs.PlaceNames.{text-once}
use Rattle.fs_cert_evidence.specs.Inferences.{inference_of}
use Rattle.fs_cert_evidence.specs.declared.inference.Inference.{Inference as Kept}
use Rattle.fs_cert_evidence.specs.Certificate.{Link, Inference, ByChoice, BySource, ByOrder, ByCases, Filter, Cycle, Stale, Reversed, Parted}
use Rattle.fs_cert_evidence.specs.CertificateFile.{AreTwo, IsLink, IsInference, IsNameInRange, IsNumber, IsOfNames, IsOfNumber, IsText}
use Rattle.fs_cert_evidence.specs.WitnessFile.{EachItem, IsArrayOf, IsName, IsInRange, in_range}
use Rattle.fs_cert_json.specs.Kept.{KeepsLink, AreInRangeLinks}
use Rattle.fs_cert_json.specs.declared.certificate.CertificateLink.{CertificateLink}
use Rattle.fs_cert_json.specs.declared.operands.Operands.{Operands}
use Rattle.fs_cert_json.specs.declared.operands.Operands.TheVariants.{Number, One, Two, Three}
use Rattle.fs_cert_json.specs.inner.Operands.{HasLetter, AreOperands, IsMadeOf, IsSaidBy, IsLinkInRange}
use Rattle.fs_cert_json.proofs.Steps.{in_range-is}

-- ---- names in range

name-once : (d : Data) (x y : Name) → IsName d x → IsName d y → x ≡ y
name-once d x y left right =
    let same : right.0 ≡ left.0 = (let l = left.1 in let r = right.1 in cc) in
    text-once left.0 x y left.2 (subst (λ text. IsOperationName text y) same right.2)

-- a name of two that is kept as none is out of range
out_of_range : (d : Data) (x y : Name) → None ≡ in_range x → IsName d x → IsName d y → ¬ IsInRange y
out_of_range d x y none left right low =
    let same : x ≡ y = name-once d x y left right in
    let there : in_range y ≡ Some y = in_range-is y low in
    let here : None ≡ in_range y = subst (λ n. None ≡ in_range n) same none in
    absurd (cc)

in_range-some : (name found : Name) → Some found ≡ in_range name → (found ≡ name) × IsInRange name
in_range-some name found is = grind (arith, nat_tests)

pub kept_in_range : (d : Data) (kept : Option Name) → ((name : Name) × IsName d name × (kept ≡ in_range name))
    → MatchOption kept ((name : Name) → ¬ IsNameInRange d name) (λ name. IsNameInRange d name)
kept_in_range d None h = λ name is. out_of_range d h.0 name h.2 h.1 is.0 is.1
kept_in_range d (Some found) h =
    let is = in_range-some h.0 found h.2 in
    subst (IsNameInRange d) (sym is.0) (h.1, is.1)

-- ---- links

pub no_whole_link : (d : Data) (kept : CertificateLink) → kept.operation ≡ None
    → ((link : Link) × IsLink d link × KeepsLink kept link) → (link : Link) → ¬ IsLinkInRange d link
no_whole_link d kept none h link is =
    let here = h.1.2 in
    let there = is.0.2 in
    let same : is.0.0 ≡ h.1.0 = cc in
    out_of_range h.1.0 h.0.operation link.operation (sym none ∙ h.2.operation) h.1.3
    (subst (λ e. IsName e link.operation) same is.0.3) is.1

each_link : (ds : Items) (links : List Link) → EachItem IsLinkInRange ds links
    → EachItem IsLink ds links × AreInRangeLinks links
each_link no_items [] each = (tt, All-nil (λ link. IsInRange link.operation))
each_link no_items (link ∷ links) each = absurd each
each_link (item d ds) [] each = absurd each
each_link (item d ds) (link ∷ links) each =
    let rest = each_link ds links each.1 in
    ((each.0.0, rest.0), All-cons (λ l. IsInRange l.operation) link links each.0.1 rest.1)

link_each : (ds : Items) (links : List Link) → EachItem IsLink ds links → AreInRangeLinks links
    → EachItem IsLinkInRange ds links
link_each no_items [] each low = tt
link_each no_items (link ∷ links) each low = absurd each
link_each (item d ds) [] each low = absurd each
link_each (item d ds) (link ∷ links) each low = (
  (each.0, All-head (λ l. IsInRange l.operation) link links low),
  link_each ds links each.1
      (All-tail (λ l. IsInRange l.operation) link links low),
)

pub whole_links : (d : Data) (links : List Link) → IsInference d (Cycle links) → IsArrayOf IsLinkInRange d links
whole_links d links h = (h.0.0.0, h.0.0.1, link_each h.0.0.0 links h.0.0.2 h.1)

pub whole_cycle : (d : Data) (links : List Link) → IsArrayOf IsLinkInRange d links → 1 ≤ length links
    → length links ≤ 64 → IsInference d (Cycle links)
whole_cycle d links h some few =
    let each = each_link h.0 links h.2 in
    (((h.0, h.1, each.0), some, few), each.1)

-- ---- operands

pub one_value : (vs : List Value) (v : Value) → length vs ≡ 1 → v ≡ get_or vs 0 v
    → items_view vs ≡ item (view v) no_items
one_value [] v long first = absurd (omega arith)
one_value (x ∷ []) v long first = cc
one_value (x ∷ y ∷ vs) v long first = absurd (omega arith)

pub two_values : (vs : List Value) (v w : Value) → length vs ≡ 2 → v ≡ get_or vs 0 v → w ≡ get_or vs 1 w
    → items_view vs ≡ item (view v) (item (view w) no_items)
two_values [] v w long first second = absurd (omega arith)
two_values (x ∷ []) v w long first second = absurd (omega arith)
two_values (x ∷ y ∷ []) v w long first second = cc
two_values (x ∷ y ∷ z ∷ vs) v w long first second = absurd (omega arith)

pub three_values : (vs : List Value) (v w u : Value) → length vs ≡ 3 → v ≡ get_or vs 0 v → w ≡ get_or vs 1 w
    → u ≡ get_or vs 2 u
    → items_view vs ≡ item (view v) (item (view w) (item (view u) no_items))
three_values [] v w u long first second third = absurd (omega arith)
three_values (x ∷ []) v w u long first second third = absurd (omega arith)
three_values (x ∷ y ∷ []) v w u long first second third = absurd (omega arith)
three_values (x ∷ y ∷ z ∷ []) v w u long first second third = cc
three_values (x ∷ y ∷ z ∷ q ∷ vs) v w u long first second third = absurd (omega arith)

-- other numbers of values are no operands
pub no_operands : (vs : List Value) → ¬ (length vs ≡ 1) → ¬ (length vs ≡ 2) → ¬ (length vs ≡ 3)
    → (operands : Operands) → ¬ AreOperands (items_view vs) operands
no_operands [] one two three (Number n) h = h
no_operands [] one two three (One a) h = h
no_operands [] one two three (Two a b) h = h
no_operands [] one two three (Three a b d) h = h
no_operands (x ∷ []) one two three operands h = one refl
no_operands (x ∷ y ∷ []) one two three operands h = two refl
no_operands (x ∷ y ∷ z ∷ []) one two three operands h = three refl
no_operands (x ∷ y ∷ z ∷ q ∷ vs) one two three (Number n) h = h.1
no_operands (x ∷ y ∷ z ∷ q ∷ vs) one two three (One a) h = h.1
no_operands (x ∷ y ∷ z ∷ q ∷ vs) one two three (Two a b) h = h.1.1
no_operands (x ∷ y ∷ z ∷ q ∷ vs) one two three (Three a b d) h = h.1.1.1

pub no_one : (d : Data) → ((n : ℕ) → ¬ IsNumber d n) → ((name : Name) → ¬ IsNameInRange d name)
    → (operands : Operands) → ¬ AreOperands (item d no_items) operands
no_one d number' name' (Number n) h = number' n h.0
no_one d number' name' (One a) h = name' a h.0
no_one d number' name' (Two a b) h = h.1
no_one d number' name' (Three a b e) h = h.1

pub no_first : (d e : Data) → ((name : Name) → ¬ IsNameInRange d name) → (operands : Operands)
    → ¬ AreOperands (item d (item e no_items)) operands
no_first d e none (Number n) h = h.1
no_first d e none (One a) h = h.1
no_first d e none (Two a b) h = none a h.0
no_first d e none (Three a b o) h = none a h.0

pub no_second : (d e : Data) → ((name : Name) → ¬ IsNameInRange e name) → (operands : Operands)
    → ¬ AreOperands (item d (item e no_items)) operands
no_second d e none (Number n) h = h.1
no_second d e none (One a) h = h.1
no_second d e none (Two a b) h = none b h.1.0
no_second d e none (Three a b o) h = none b h.1.0

-- of three values one names no operation
pub no_three : (d e u : Data) → ((x y z : Name) → IsNameInRange d x → IsNameInRange e y → ¬ IsNameInRange u z)
    → (operands : Operands) → ¬ AreOperands (item d (item e (item u no_items))) operands
no_three d e u none (Number n) h = h.1
no_three d e u none (One a) h = h.1
no_three d e u none (Two a b) h = h.1.1
no_three d e u none (Three a b o) h = none a b o h.0 h.1.0 h.1.1.0

-- ---- operands, once

number_or_name : (d : Data) (n : ℕ) (name : Name) → IsNumber d n → ¬ IsNameInRange d name
number_or_name null n name left right = absurd (cc)
number_or_name (boolean b) n name left right = absurd (cc)
number_or_name (number m) n name left right = let text = right.0.1 in absurd (cc)
number_or_name (string s) n name left right = absurd (cc)
number_or_name (array ds) n name left right = absurd (cc)
number_or_name (object ms) n name left right = absurd (cc)

names-once : (ds : Items) (xs ys : List Name) → EachItem IsNameInRange ds xs → EachItem IsNameInRange ds ys → xs ≡ ys
names-once no_items [] [] left right = refl
names-once no_items (x ∷ xs) ys left right = absurd left
names-once no_items [] (y ∷ ys) left right = absurd right
names-once (item d ds) [] ys left right = absurd left
names-once (item d ds) (x ∷ xs) [] left right = absurd right
names-once (item d ds) (x ∷ xs) (y ∷ ys) left right =
    let first : x ≡ y = name-once d x y left.0.0 right.0.0 in
    let rest : xs ≡ ys = names-once ds xs ys left.1 right.1 in
    cc

-- no values are a number and names
number_or_names : (ds : Items) (n : ℕ) (name : Name) (names : List Name) → EachItem IsNumber ds (n ∷ [])
    → ¬ EachItem IsNameInRange ds (name ∷ names)
number_or_names no_items n name names left right = left
number_or_names (item d ds) n name names left right = number_or_name d n name left.0 right.0

operands-once : (ds : Items) (a b : Operands) → AreOperands ds a → AreOperands ds b → a ≡ b
operands-once no_items (Number m) b left right = absurd left
operands-once (item d ds) (Number m) (Number n) left right = let l = left.0 in let r = right.0 in cc
operands-once ds (Number n) (One x) left right = absurd (number_or_names ds n x [] left right)
operands-once ds (Number n) (Two x y) left right = absurd (number_or_names ds n x (y ∷ []) left right)
operands-once ds (Number n) (Three x y z) left right = absurd (number_or_names ds n x (y ∷ z ∷ []) left right)
operands-once ds (One x) (Number n) left right = absurd (number_or_names ds n x [] right left)
operands-once ds (Two x y) (Number n) left right = absurd (number_or_names ds n x (y ∷ []) right left)
operands-once ds (Three x y z) (Number n) left right = absurd (number_or_names ds n x (y ∷ z ∷ []) right left)
operands-once ds (One x) (One a) left right = let e = names-once ds (x ∷ []) (a ∷ []) left right in cc
operands-once ds (One x) (Two a b) left right = let e = names-once ds (x ∷ []) (a ∷ b ∷ []) left right in absurd (cc)
operands-once ds (One x) (Three a b o) left right =
    let e = names-once ds (x ∷ []) (a ∷ b ∷ o ∷ []) left right in absurd (cc)
operands-once ds (Two x y) (One a) left right = let e = names-once ds (x ∷ y ∷ []) (a ∷ []) left right in absurd (cc)
operands-once ds (Two x y) (Two a b) left right = let e = names-once ds (x ∷ y ∷ []) (a ∷ b ∷ []) left right in cc
operands-once ds (Two x y) (Three a b o) left right =
    let e = names-once ds (x ∷ y ∷ []) (a ∷ b ∷ o ∷ []) left right in absurd (cc)
operands-once ds (Three x y z) (One a) left right =
    let e = names-once ds (x ∷ y ∷ z ∷ []) (a ∷ []) left right in absurd (cc)
operands-once ds (Three x y z) (Two a b) left right =
    let e = names-once ds (x ∷ y ∷ z ∷ []) (a ∷ b ∷ []) left right in absurd (cc)
operands-once ds (Three x y z) (Three a b o) left right =
    let e = names-once ds (x ∷ y ∷ z ∷ []) (a ∷ b ∷ o ∷ []) left right in cc

pub said_by : (letter : List ℕ) (ds : Items) (operands : Operands) (found : Option Kept) → AreOperands ds operands
    → MatchOption found ((inference : Inference) → ¬ IsMadeOf letter operands inference)
    (λ kept. IsMadeOf letter operands (inference_of kept))
    → MatchOption found ((inference : Inference) → ¬ IsSaidBy letter ds inference)
    (λ kept. IsSaidBy letter ds (inference_of kept))
said_by letter ds operands None are none = λ inference h. none inference
    (subst (λ o. IsMadeOf letter o inference) (operands-once ds h.0 operands h.1 are) h.2)
said_by letter ds operands (Some kept) are made = (operands, are, made)

-- ---- inferences

-- what isn't a cycle begins with a letter
pub unlettered : (d : Data) → ((letter : List ℕ) (others : Items) → ¬ HasLetter d letter others)
    → ((links : List Link) → ¬ IsInference d (Cycle links))
    → (inference : Inference) → ¬ IsInference d inference
unlettered d none cycle (ByChoice name) h = none (codes "c") h.1 (h.0, h.2, h.3)
unlettered d none cycle (BySource load) h = none (codes "s") h.1 (h.0, h.2, h.3)
unlettered d none cycle (ByOrder first second) h = none (codes "o") h.1 (h.0, h.2, h.3)
unlettered d none cycle (ByCases condition) h = none (codes "d") (item h.1 no_items) (h.0, h.2, h.3)
unlettered d none cycle (Filter hart) h = none (codes "f") (item h.0.1 no_items) (h.0.0, h.0.2, h.0.3)
unlettered d none cycle (Cycle links) h = cycle links h
unlettered d none cycle (Stale load store) h = none (codes "l") h.1 (h.0, h.2, h.3)
unlettered d none cycle (Reversed load store) h = none (codes "a") h.1 (h.0, h.2, h.3)
unlettered d none cycle (Parted load store other) h = none (codes "a") h.1 (h.0, h.2, h.3)

of_names : (d : Data) (letter l : List ℕ) (others : Items) (names : List Name) → HasLetter d letter others
    → IsOfNames l d names → (letter ≡ l) × EachItem IsNameInRange others names
of_names d letter l others names has h =
    let here = has.1 in
    let there = h.2 in
    let text = has.2 in
    let other = h.3 in
    let first : h.0 ≡ has.0 = cc in
    let rest : h.1 ≡ others = cc in
    let same : letter ≡ l = cc in
    (same, subst (λ ds. EachItem IsNameInRange ds names) rest h.4)

of_number : (d : Data) (letter l : List ℕ) (others : Items) (n : ℕ) → HasLetter d letter others → IsOfNumber l d n
    → (letter ≡ l) × EachItem IsNumber others (n ∷ [])
of_number d letter l others n has h =
    let here = has.1 in
    let there = h.2 in
    let text = has.2 in
    let other = h.3 in
    let first : h.0 ≡ has.0 = cc in
    let rest : item h.1 no_items ≡ others = cc in
    let same : letter ≡ l = cc in
    (same, subst (λ ds. EachItem IsNumber ds (n ∷ [])) rest (h.4, tt))

text_or_array : (d : Data) (text : List ℕ) (ds : Items) → IsText d text → as_array d ≡ Some ds → ⊥
text_or_array null text ds left right = absurd (cc)
text_or_array (boolean b) text ds left right = absurd (cc)
text_or_array (number m) text ds left right = absurd (cc)
text_or_array (string s) text ds left right = absurd (cc)
text_or_array (array es) text ds left right = absurd (cc)
text_or_array (object ms) text ds left right = absurd (cc)

no_letter : (d first : Data) (letter : List ℕ) (others ds : Items) (links : List Link)
    → as_array d ≡ Some (item first others) → IsText first letter → as_array d ≡ Some ds
    → EachItem IsLink ds links → ¬ (1 ≤ length links)
no_letter d first letter others no_items links has text is each some = absurd (cc)
no_letter d first letter others (item e es) [] has text is each some = omega arith
no_letter d first letter others (item e es) (link ∷ links) has text is each some =
    let same : e ≡ first = cc in
    text_or_array first letter _ text (subst (λ u. AreTwo u each.0.0 each.0.1) same each.0.2)

pub lettered : (d : Data) (letter : List ℕ) (others : Items) → HasLetter d letter others
    → ((inference : Inference) → ¬ IsSaidBy letter others inference)
    → (inference : Inference) → ¬ IsInference d inference
lettered d letter others has none (ByChoice name) h =
    let of = of_names d letter (codes "c") others (name ∷ []) has h in
    none (ByChoice name) (One name, of.1, (of.0, refl))
lettered d letter others has none (BySource load) h =
    let of = of_names d letter (codes "s") others (load ∷ []) has h in
    none (BySource load) (One load, of.1, (of.0, refl))
lettered d letter others has none (ByOrder first second) h =
    let of = of_names d letter (codes "o") others (first ∷ second ∷ []) has h in
    none (ByOrder first second) (Two first second, of.1, (of.0, refl))
lettered d letter others has none (ByCases condition) h =
    let of = of_number d letter (codes "d") others condition has h in
    none (ByCases condition) (Number condition, of.1, (of.0, refl))
lettered d letter others has none (Filter hart) h =
    let of = of_number d letter (codes "f") others hart has h.0 in
    none (Filter hart) (Number hart, of.1, (of.0, refl, h.1))
lettered d letter others has none (Cycle links) h =
    no_letter d has.0 letter others h.0.0.0 links has.1 has.2 h.0.0.1 h.0.0.2 h.0.1
lettered d letter others has none (Stale load store) h =
    let of = of_names d letter (codes "l") others (load ∷ store ∷ []) has h in
    none (Stale load store) (Two load store, of.1, (of.0, refl))
lettered d letter others has none (Reversed load store) h =
    let of = of_names d letter (codes "a") others (load ∷ store ∷ []) has h in
    none (Reversed load store) (Two load store, of.1, (of.0, refl))
lettered d letter others has none (Parted load store other) h =
    let of = of_names d letter (codes "a") others (load ∷ store ∷ other ∷ []) has h in
    none (Parted load store other) (Three load store other, of.1, (of.0, refl))

names_said : (d : Data) (letter l : List ℕ) (others : Items) (names : List Name) → HasLetter d letter others
    → letter ≡ l → EachItem IsNameInRange others names → IsOfNames l d names
names_said d letter l others names has is each = (has.0, others, has.1, has.2 ∙ ap Some is, each)

number_said : (d : Data) (letter l : List ℕ) (others : Items) (n : ℕ) → HasLetter d letter others → letter ≡ l
    → EachItem IsNumber others (n ∷ []) → IsOfNumber l d n
number_said d letter l no_items n has is each = absurd each
number_said d letter l (item e no_items) n has is each = (has.0, e, has.1, has.2 ∙ ap Some is, each.0)
number_said d letter l (item e (item u ds)) n has is each = absurd each.1

pub is_said : (d : Data) (letter : List ℕ) (others : Items) (inference : Inference) → HasLetter d letter others
    → IsSaidBy letter others inference → IsInference d inference
is_said d letter others (ByChoice name) has h = names_said d letter (codes "c") others (name ∷ []) has h.2.0
    (subst (AreOperands others) h.2.1 h.1)
is_said d letter others (BySource load) has h = names_said d letter (codes "s") others (load ∷ []) has h.2.0
    (subst (AreOperands others) h.2.1 h.1)
is_said d letter others (ByOrder first second) has h = names_said d letter (codes "o") others (first ∷ second ∷ [])
    has h.2.0 (subst (AreOperands others) h.2.1 h.1)
is_said d letter others (ByCases condition) has h = number_said d letter (codes "d") others condition has h.2.0
    (subst (AreOperands others) h.2.1 h.1)
is_said d letter others (Filter hart) has h = (
  number_said d letter (codes "f") others hart has h.2.0
      (subst (AreOperands others) h.2.1 h.1),
  h.2.2,
)
is_said d letter others (Cycle links) has h = absurd h.2
is_said d letter others (Stale load store) has h = names_said d letter (codes "l") others (load ∷ store ∷ []) has
    h.2.0 (subst (AreOperands others) h.2.1 h.1)
is_said d letter others (Reversed load store) has h = names_said d letter (codes "a") others (load ∷ store ∷ []) has
    h.2.0 (subst (AreOperands others) h.2.1 h.1)
is_said d letter others (Parted load store other) has h = names_said d letter (codes "a") others
    (load ∷ store ∷ other ∷ []) has h.2.0 (subst (AreOperands others) h.2.1 h.1)
