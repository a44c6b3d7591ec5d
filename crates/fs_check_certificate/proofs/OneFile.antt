-- A file says one certificate.
use Rattle.std.proofs.Common.{◌≡◌, ℕ, ◌+◌, ◌*◌, ◌==◌, ◌≤◌, false, Option, Some, None, option_map, List, [], ◌∷◌, length, refl, ap, sym, subst, ◌∙◌, arith, codes}
use Rattle.std.specs.Prelude.{slice_index}
use Rattle.std.specs.List.{find, slice_index_or}
use Rattle.std.proofs.lemmas.Bool.{false≢true, eq-eqb}
use Rattle.serde_json.specs.Data.{Data, null, boolean, number, string, array, object, Items, no_items, item}
use Rattle.serde_json.specs.Events.{members_len}
use Rattle.serde_json.specs.Find.{as_array, as_object, as_str}
use Rattle.fs_kinds.specs.declared.reason.OperationName.{OperationName as Name}
use Rattle.fs_kinds.specs.PlaceNames.{IsOperationName}
use Rattle.fs_kinds.proofs.PlaceNames.{text-once}
use Rattle.fs_model.specs.Preserved.{Rule1, Rule2, Rule3, Rule4, Rule5, Rule6, Rule7, Rule8, Rule9, Rule10, Rule11, Rule12, Rule13}
use Rattle.fs_model.specs.Witness.{Witness}
use Rattle.fs_cert_evidence.specs.Certificate.{Certificate, Version, First, Second, Fourth, Answer, Fenced, NoneForbids, Cycles, Listed, Inferred, Link, Inference, ByChoice, BySource, ByOrder, ByCases, Filter, Cycle, Stale, Reversed, Parted, Item, SplitAt, Costly, Refuted, Bounded}
use Rattle.fs_cert_evidence.specs.CertificateFile.{IsNumber, IsText, AreTwo, IsAnswerValue, cause_word, IsLink, IsCycleValue, IsNameInRange, IsOfNames, IsOfNumber, IsInference, AreCycles, IsItem, version_number, IsCertificateValue, IsCertificateFile}
use Rattle.fs_cert_evidence.specs.Judged.{Cause, Preserved, ReadsFrom, Coherence, FromReads}
use Rattle.fs_cert_evidence.specs.WitnessFile.{EachItem, IsArrayOf, IsName, IsWitnessValue}
use Rattle.fs_cert_evidence.proofs.Once.{Once, value-once}

-- ---- arrays

each_once : {A : Type 0} (P : Data → A → Type 0) → Once P → (ds : Items) (xs ys : List A) → EachItem P ds xs → EachItem P ds ys → xs ≡ ys
each_once P once no_items [] [] left right = refl
each_once P once no_items (x ∷ xs) ys left right = absurd left
each_once P once no_items [] (y ∷ ys) left right = absurd right
each_once P once (item d ds) [] ys left right = absurd left
each_once P once (item d ds) (x ∷ xs) [] left right = absurd right
each_once P once (item d ds) (x ∷ xs) (y ∷ ys) left right =
    let first : x ≡ y = once d x y left.0 right.0 in
    let rest : xs ≡ ys = each_once P once ds xs ys left.1 right.1 in
    cc

same_Some : {X : Type 0} (x y : X) → Some x ≡ Some y → x ≡ y
same_Some x y e = cc

array_once : {A : Type 0} (P : Data → A → Type 0) → Once P → Once (IsArrayOf P)
array_once P once d xs ys left right =
    let same : right.0 ≡ left.0 = same_Some right.0 left.0 (sym right.1 ∙ left.1) in
    each_once P once left.0 xs ys left.2 (subst (λ ds. EachItem P ds ys) same right.2)

first_of : (a b c d : Data) → item a (item b no_items) ≡ item c (item d no_items) → a ≡ c
first_of a b c d e = cc

second_of : (a b c d : Data) → item a (item b no_items) ≡ item c (item d no_items) → b ≡ d
second_of a b c d e = cc

-- the two values of an array of two
two_items : (d a b e f : Data) → AreTwo d a b → AreTwo d e f → item e (item f no_items) ≡ item a (item b no_items)
two_items d a b e f left right = same_Some (item e (item f no_items)) (item a (item b no_items)) (sym right ∙ left)

-- ---- texts and numbers

number_once : Once IsNumber
number_once d m n left right = same_Some m n (sym left ∙ right)

text_once : Once IsText
text_once d s u left right = same_Some s u (sym left ∙ right)

-- of a text, a number and an array a value is one at most
no_text_number : (d : Data) (s : List ℕ) (n : ℕ) → IsText d s → IsNumber d n → ⊥
no_text_number null s n text is = absurd (let e : None ≡ Some s = text in cc)
no_text_number (boolean b) s n text is = absurd (let e : None ≡ Some s = text in cc)
no_text_number (number m) s n text is = absurd (let e : None ≡ Some s = text in cc)
no_text_number (string u) s n text is = absurd (let e : None ≡ Some n = is in cc)
no_text_number (array ds) s n text is = absurd (let e : None ≡ Some s = text in cc)
no_text_number (object ms) s n text is = absurd (let e : None ≡ Some s = text in cc)

no_two_number : (d a b : Data) (n : ℕ) → AreTwo d a b → IsNumber d n → ⊥
no_two_number null a b n two is = absurd (let e : None ≡ Some (item a (item b no_items)) = two in cc)
no_two_number (boolean c) a b n two is = absurd (let e : None ≡ Some (item a (item b no_items)) = two in cc)
no_two_number (number m) a b n two is = absurd (let e : None ≡ Some (item a (item b no_items)) = two in cc)
no_two_number (string u) a b n two is = absurd (let e : None ≡ Some (item a (item b no_items)) = two in cc)
no_two_number (array ds) a b n two is = absurd (let e : None ≡ Some n = is in cc)
no_two_number (object ms) a b n two is = absurd (let e : None ≡ Some (item a (item b no_items)) = two in cc)

no_two_text : (d a b : Data) (s : List ℕ) → AreTwo d a b → IsText d s → ⊥
no_two_text null a b s two text = absurd (let e : None ≡ Some s = text in cc)
no_two_text (boolean c) a b s two text = absurd (let e : None ≡ Some s = text in cc)
no_two_text (number m) a b s two text = absurd (let e : None ≡ Some s = text in cc)
no_two_text (string u) a b s two text = absurd (let e : None ≡ Some (item a (item b no_items)) = two in cc)
no_two_text (array ds) a b s two text = absurd (let e : None ≡ Some s = text in cc)
no_two_text (object ms) a b s two text = absurd (let e : None ≡ Some s = text in cc)

no_text_object : (d : Data) (s : List ℕ) (n : ℕ) → IsText d s → option_map members_len (as_object d) ≡ Some n → ⊥
no_text_object null s n text is = absurd (let e : None ≡ Some s = text in cc)
no_text_object (boolean c) s n text is = absurd (let e : None ≡ Some s = text in cc)
no_text_object (number m) s n text is = absurd (let e : None ≡ Some s = text in cc)
no_text_object (string u) s n text is = absurd (let e : None ≡ Some n = is in cc)
no_text_object (array ds) s n text is = absurd (let e : None ≡ Some s = text in cc)
no_text_object (object ms) s n text is = absurd (let e : None ≡ Some s = text in cc)

-- ---- answers

answer_once : Once IsAnswerValue
answer_once d NoneForbids NoneForbids left right = refl
answer_once d NoneForbids (Fenced n fences) left right = absurd (no_text_object d (codes "none") 2 left right.2)
answer_once d (Fenced n fences) NoneForbids left right = absurd (no_text_object d (codes "none") 2 right left.2)
answer_once d (Fenced m fences) (Fenced n words) left right =
    let price : right.0 ≡ left.0 = same_Some right.0 left.0 (sym right.3 ∙ left.3) in
    let texts : right.1 ≡ left.1 = same_Some right.1 left.1 (sym right.4 ∙ left.4) in
    let cost : m ≡ n = number_once left.0 m n left.5 (subst (λ e. IsNumber e n) price right.5) in
    let same : fences ≡ words = array_once IsText text_once left.1 fences words left.6 (subst (λ e. IsArrayOf IsText e words) texts right.6) in
    ap (λ k. Fenced k fences) cost ∙ ap (Fenced n) same

-- ---- cycles

-- a number for each of the words
key : List ℕ → ℕ
key text = slice_index text 0 * 1000000 + slice_index text 1 * 1000 + slice_index text 2

causes : List Cause
causes = Preserved Rule1 ∷ Preserved Rule2 ∷ Preserved Rule3 ∷ Preserved Rule4 ∷ Preserved Rule5 ∷ Preserved Rule6 ∷ Preserved Rule7 ∷ Preserved Rule8
    ∷ Preserved Rule9 ∷ Preserved Rule10 ∷ Preserved Rule11 ∷ Preserved Rule12 ∷ Preserved Rule13 ∷ ReadsFrom ∷ Coherence ∷ FromReads ∷ []

cause_named : List ℕ → Option Cause
cause_named text = find (λ cause. key (cause_word cause) == key text) causes

names_it : (cause : Cause) → cause_named (cause_word cause) ≡ Some cause
unfolding cause_named causes key
names_it (Preserved Rule1) = refl
names_it (Preserved Rule2) = refl
names_it (Preserved Rule3) = refl
names_it (Preserved Rule4) = refl
names_it (Preserved Rule5) = refl
names_it (Preserved Rule6) = refl
names_it (Preserved Rule7) = refl
names_it (Preserved Rule8) = refl
names_it (Preserved Rule9) = refl
names_it (Preserved Rule10) = refl
names_it (Preserved Rule11) = refl
names_it (Preserved Rule12) = refl
names_it (Preserved Rule13) = refl
names_it ReadsFrom = refl
names_it Coherence = refl
names_it FromReads = refl

cause_once : (a b : Cause) → cause_word a ≡ cause_word b → a ≡ b
cause_once a b same = same_Some a b (sym (names_it a) ∙ (ap cause_named same ∙ names_it b))

name_once : Once IsName
name_once d x y left right =
    let same : right.0 ≡ left.0 = same_Some right.0 left.0 (sym right.1 ∙ left.1) in
    text-once left.0 x y left.2 (subst (λ text. IsOperationName text y) same right.2)

link_once : Once IsLink
link_once d x y left right =
    let two = two_items d left.0 left.1 right.0 right.1 left.2 right.2 in
    let name : right.0 ≡ left.0 = first_of right.0 right.1 left.0 left.1 two in
    let why : right.1 ≡ left.1 = second_of right.0 right.1 left.0 left.1 two in
    let operation : x.operation ≡ y.operation = name_once left.0 x.operation y.operation left.3 (subst (λ e. IsName e y.operation) name right.3) in
    let text : cause_word x.cause ≡ cause_word y.cause =
    text_once left.1 (cause_word x.cause) (cause_word y.cause) left.4 (subst (λ e. IsText e (cause_word y.cause)) why right.4) in
    let cause : x.cause ≡ y.cause = cause_once x.cause y.cause text in
    let link : Name → Cause → Link = λ o k. record { operation = o; cause = k } in
    ap (λ o. link o x.cause) operation ∙ ap (link y.operation) cause

cycle_once : Once IsCycleValue
cycle_once d xs ys left right = array_once IsLink link_once d xs ys left.0 right.0

-- ---- inferences

in_range_once : Once IsNameInRange
in_range_once d x y left right = name_once d x y left.0 right.0

items_after : (a b : Data) (ds es : Items) → item a ds ≡ item b es → ds ≡ es
items_after a b ds es e = cc

names_once : (letter other : List ℕ) (d : Data) (xs ys : List Name) → IsOfNames letter d xs → IsOfNames other d ys
    → xs ≡ ys
names_once letter other d xs ys left right =
    let whole = same_Some (item right.0 right.1) (item left.0 left.1) (sym right.2 ∙ left.2) in
    let same : right.1 ≡ left.1 = items_after right.0 left.0 right.1 left.1 whole in
    each_once IsNameInRange in_range_once left.1 xs ys left.4 (subst (λ ds. EachItem IsNameInRange ds ys) same right.4)

numbered_once : (letter other : List ℕ) (d : Data) (m n : ℕ) → IsOfNumber letter d m → IsOfNumber other d n → m ≡ n
numbered_once letter other d m n left right =
    let two = two_items d left.0 left.1 right.0 right.1 left.2 right.2 in
    let same : right.1 ≡ left.1 = second_of right.0 right.1 left.0 left.1 two in
    number_once left.1 m n left.4 (subst (λ e. IsNumber e n) same right.4)

-- the text that an array begins with
text_of : Option Items → Option (List ℕ)
text_of None = None
text_of (Some no_items) = None
text_of (Some (item first others)) = as_str first

-- the letter of an inference; a cycle has none
letter_of : Inference → Option (List ℕ)
letter_of (ByChoice name) = Some (codes "c")
letter_of (BySource load) = Some (codes "s")
letter_of (ByOrder first second) = Some (codes "o")
letter_of (ByCases condition) = Some (codes "d")
letter_of (Filter hart) = Some (codes "f")
letter_of (Cycle links) = None
letter_of (Stale load store) = Some (codes "l")
letter_of (Reversed load store) = Some (codes "a")
letter_of (Parted load store other) = Some (codes "a")

array_no_text : (d : Data) (ds : Items) → as_array d ≡ Some ds → as_str d ≡ None
array_no_text null ds e = refl
array_no_text (boolean b) ds e = refl
array_no_text (number n) ds e = refl
array_no_text (string s) ds e = absurd (let none : None ≡ Some ds = e in cc)
array_no_text (array es) ds e = refl
array_no_text (object ms) ds e = refl

-- the first link of a cycle is an array
link_no_text : (ds : Items) (links : List Link) → EachItem IsLink ds links → 1 ≤ length links → text_of (Some ds) ≡ None
unfolding text_of
link_no_text no_items [] each some = refl
link_no_text no_items (link ∷ links) each some = absurd each
link_no_text (item d ds) [] each some = absurd (omega (arith, some))
link_no_text (item d ds) (link ∷ links) each some =
    array_no_text d (item each.0.0 (item each.0.1 no_items)) each.0.2

lettered : (letter : List ℕ) (d first : Data) (others : Items) → as_array d ≡ Some (item first others)
    → IsText first letter → text_of (as_array d) ≡ Some letter
unfolding text_of
lettered letter d first others e text = ap text_of e ∙ text

begins_with : (d : Data) (i : Inference) → IsInference d i → text_of (as_array d) ≡ letter_of i
unfolding letter_of
begins_with d (ByChoice name) is = lettered (codes "c") d is.0 is.1 is.2 is.3
begins_with d (BySource load) is = lettered (codes "s") d is.0 is.1 is.2 is.3
begins_with d (ByOrder first second) is = lettered (codes "o") d is.0 is.1 is.2 is.3
begins_with d (ByCases condition) is = lettered (codes "d") d is.0 (item is.1 no_items) is.2 is.3
begins_with d (Filter hart) is = lettered (codes "f") d is.0.0 (item is.0.1 no_items) is.0.2 is.0.3
begins_with d (Cycle links) is = ap text_of is.0.0.1 ∙ link_no_text is.0.0.0 links is.0.0.2 is.0.1
begins_with d (Stale load store) is = lettered (codes "l") d is.0 is.1 is.2 is.3
begins_with d (Reversed load store) is = lettered (codes "a") d is.0 is.1 is.2 is.3
begins_with d (Parted load store other) is = lettered (codes "a") d is.0 is.1 is.2 is.3

-- a number for each letter
letter_number : Option (List ℕ) → ℕ
letter_number None = 0
letter_number (Some text) = slice_index text 0

abbrev number_for : Inference → ℕ
number_for i = letter_number (letter_of i)

unlike : (d : Data) (i j : Inference) → (number_for i == number_for j) ≡ false → IsInference d i → IsInference d j → ⊥
unlike d i j other left right =
    let same = ap letter_number (sym (begins_with d i left) ∙ begins_with d j right) in
    false≢true (sym other ∙ eq-eqb (number_for i) (number_for j) same)

inference_once : Once IsInference
unfolding letter_of letter_number
inference_once d (ByChoice x) (ByChoice y) left right =
    ap (λ ns. ByChoice (slice_index_or ns 0 x)) (names_once (codes "c") (codes "c") d (x ∷ []) (y ∷ []) left right)
inference_once d (ByChoice x) other left right = absurd (unlike d (ByChoice x) other refl left right)
inference_once d (BySource x) (BySource y) left right =
    ap (λ ns. BySource (slice_index_or ns 0 x)) (names_once (codes "s") (codes "s") d (x ∷ []) (y ∷ []) left right)
inference_once d (BySource x) other left right = absurd (unlike d (BySource x) other refl left right)
inference_once d (ByOrder x y) (ByOrder z w) left right =
    ap (λ ns. ByOrder (slice_index_or ns 0 x) (slice_index_or ns 1 x))
    (names_once (codes "o") (codes "o") d (x ∷ y ∷ []) (z ∷ w ∷ []) left right)
inference_once d (ByOrder x y) other left right = absurd (unlike d (ByOrder x y) other refl left right)
inference_once d (ByCases m) (ByCases n) left right =
    ap ByCases (numbered_once (codes "d") (codes "d") d m n left right)
inference_once d (ByCases m) other left right = absurd (unlike d (ByCases m) other refl left right)
inference_once d (Filter m) (Filter n) left right =
    ap Filter (numbered_once (codes "f") (codes "f") d m n left.0 right.0)
inference_once d (Filter m) other left right = absurd (unlike d (Filter m) other refl left right)
inference_once d (Cycle xs) (Cycle ys) left right = ap Cycle (cycle_once d xs ys left.0 right.0)
inference_once d (Cycle xs) other left right = absurd (unlike d (Cycle xs) other refl left right)
inference_once d (Stale x y) (Stale z w) left right =
    ap (λ ns. Stale (slice_index_or ns 0 x) (slice_index_or ns 1 x))
    (names_once (codes "l") (codes "l") d (x ∷ y ∷ []) (z ∷ w ∷ []) left right)
inference_once d (Stale x y) other left right = absurd (unlike d (Stale x y) other refl left right)
inference_once d (Reversed x y) (Reversed z w) left right =
    ap (λ ns. Reversed (slice_index_or ns 0 x) (slice_index_or ns 1 x))
    (names_once (codes "a") (codes "a") d (x ∷ y ∷ []) (z ∷ w ∷ []) left right)
inference_once d (Reversed x y) (Parted z w v) left right =
    let long = ap length (names_once (codes "a") (codes "a") d (x ∷ y ∷ []) (z ∷ w ∷ v ∷ []) left right) in
    absurd (omega (arith, long))
inference_once d (Reversed x y) other left right = absurd (unlike d (Reversed x y) other refl left right)
inference_once d (Parted x y z) (Parted w v u) left right =
    ap (λ ns. Parted (slice_index_or ns 0 x) (slice_index_or ns 1 x) (slice_index_or ns 2 x))
    (names_once (codes "a") (codes "a") d (x ∷ y ∷ z ∷ []) (w ∷ v ∷ u ∷ []) left right)
inference_once d (Parted x y z) (Reversed w v) left right =
    let long = ap length (names_once (codes "a") (codes "a") d (x ∷ y ∷ z ∷ []) (w ∷ v ∷ []) left right) in
    absurd (omega (arith, long))
inference_once d (Parted x y z) other left right = absurd (unlike d (Parted x y z) other refl left right)

list_once : Once (IsArrayOf IsCycleValue)
list_once = array_once IsCycleValue cycle_once

cycles_once : (version : Version) → Once (AreCycles version)
cycles_once First d (Listed xs) (Listed ys) left right = ap Listed (list_once d xs ys left right)
cycles_once First d (Listed xs) (Inferred js) left right = absurd right
cycles_once First d (Inferred is) other left right = absurd left
cycles_once Second d (Listed xs) (Listed ys) left right = ap Listed (list_once d xs ys left right)
cycles_once Second d (Listed xs) (Inferred js) left right = absurd right
cycles_once Second d (Inferred is) other left right = absurd left
cycles_once Fourth d (Inferred is) (Inferred js) left right =
    ap Inferred (array_once IsInference inference_once d is js left right)
cycles_once Fourth d (Inferred is) (Listed ys) left right = absurd right
cycles_once Fourth d (Listed xs) other left right = absurd left

-- ---- trees

letters_differ : codes "w" ≡ codes "b" → ⊥
letters_differ e = let first = ap (λ text. slice_index text 0) e in absurd (omega (arith, first))

-- the letters of both leaves are one text
same_letter : (d a b e f : Data) (s u : List ℕ) → AreTwo d a b → AreTwo d e f → IsText a s → IsText e u → s ≡ u
same_letter d a b e f s u left right first second =
    let same : e ≡ a = first_of e f a b (two_items d a b e f left right) in
    text_once a s u first (subst (λ x. IsText x u) same second)

item_once : (version : Version) → Once (IsItem version)
item_once version d (SplitAt m) (SplitAt n) left right = ap SplitAt (number_once d m n left right)
item_once version d (SplitAt m) Costly left right = absurd (no_text_number d (codes "c") m right left)
item_once version d (SplitAt m) (Refuted j) left right = absurd (no_two_number d right.0 right.1 m right.2 left)
item_once First d (SplitAt m) (Bounded js) left right = absurd right
item_once version d (SplitAt m) (Bounded js) left right = absurd (no_two_number d right.0 right.1 m right.2 left)
item_once version d Costly (SplitAt n) left right = absurd (no_text_number d (codes "c") n left right)
item_once version d Costly Costly left right = refl
item_once version d Costly (Refuted j) left right = absurd (no_two_text d right.0 right.1 (codes "c") right.2 left)
item_once First d Costly (Bounded js) left right = absurd right
item_once version d Costly (Bounded js) left right = absurd (no_two_text d right.0 right.1 (codes "c") right.2 left)
item_once version d (Refuted j) (SplitAt n) left right = absurd (no_two_number d left.0 left.1 n left.2 right)
item_once version d (Refuted j) Costly left right = absurd (no_two_text d left.0 left.1 (codes "c") left.2 right)
item_once version d (Refuted i) (Refuted j) left right =
    let same : right.1 ≡ left.1 = second_of right.0 right.1 left.0 left.1 (two_items d left.0 left.1 right.0 right.1 left.2 right.2) in
    ap Refuted (number_once left.1 i j left.4 (subst (λ e. IsNumber e j) same right.4))
item_once First d (Refuted j) (Bounded js) left right = absurd right
item_once version d (Refuted j) (Bounded js) left right =
    absurd (letters_differ (same_letter d left.0 left.1 right.0 right.1 (codes "w") (codes "b") left.2 right.2 left.3 right.3))
item_once First d (Bounded js) other left right = absurd left
item_once version d (Bounded js) (SplitAt n) left right = absurd (no_two_number d left.0 left.1 n left.2 right)
item_once version d (Bounded js) Costly left right = absurd (no_two_text d left.0 left.1 (codes "c") left.2 right)
item_once version d (Bounded js) (Refuted j) left right =
    absurd (letters_differ (sym (same_letter d left.0 left.1 right.0 right.1 (codes "b") (codes "w") left.2 right.2 left.3 right.3)))
item_once version d (Bounded is) (Bounded js) left right =
    let same : right.1 ≡ left.1 = second_of right.0 right.1 left.0 left.1 (two_items d left.0 left.1 right.0 right.1 left.2 right.2) in
    ap Bounded (array_once IsNumber number_once left.1 is js left.4 (subst (λ e. IsArrayOf IsNumber e js) same right.4))

-- ---- the whole

version_once : (v w : Version) → version_number v ≡ version_number w → v ≡ w
version_once First First e = refl
version_once Second Second e = refl
version_once Fourth Fourth e = refl
version_once v w e = absurd (omega (arith, e))

-- what stands at one key
same_at : {A : Type 0} (P : Data → A → Type 0) → Once P → (o : Option Data) (d e : Data) (x y : A) → o ≡ Some d → o ≡ Some e → P d x → P e y → x ≡ y
same_at P once o d e x y here there left right =
    let same : e ≡ d = same_Some e d (sym there ∙ here) in
    once d x y left (subst (λ (v : Data). P v y) same right)

certificate_once : Once IsCertificateValue
certificate_once d x y left right =
    let version = version_once x.version y.version
    (same_at IsNumber number_once _ left.version right.version _ _ left.at_version right.at_version left.says_version right.says_version) in
    let answer = same_at IsAnswerValue answer_once _ left.answer right.answer x.answer y.answer left.at_answer right.at_answer left.says_answer right.says_answer in
    let cycles = same_at (AreCycles x.version) (cycles_once x.version) _ left.cycles right.cycles x.cycles y.cycles
    left.at_cycles right.at_cycles left.says_cycles
    (subst (λ (v : Version). AreCycles v right.cycles y.cycles) (sym version) right.says_cycles) in
    let tree = same_at (IsArrayOf (IsItem x.version)) (array_once (IsItem x.version) (item_once x.version)) _ left.tree right.tree x.tree y.tree
    left.at_tree right.at_tree left.says_tree (subst (λ (v : Version). IsArrayOf (IsItem v) right.tree y.tree) (sym version) right.says_tree) in
    let witnesses = same_at (IsArrayOf IsWitnessValue) (array_once IsWitnessValue value-once) _ left.witnesses right.witnesses x.witnesses y.witnesses
    left.at_witnesses right.at_witnesses left.says_witnesses right.says_witnesses in
    same x.version y.version x.answer y.answer x.cycles y.cycles x.tree y.tree x.witnesses y.witnesses version answer cycles tree witnesses
  where
    certificate : Version → Answer → Cycles → List Item → List Witness → Certificate
    certificate v a cs is ws = record { version = v; answer = a; cycles = cs; tree = is; witnesses = ws }

    same : (v w : Version) (a b : Answer) (cs ds : Cycles) (is js : List Item) (us ws : List Witness) → v ≡ w → a ≡ b → cs ≡ ds → is ≡ js → us ≡ ws
        → certificate v a cs is us ≡ certificate w b ds js ws
    same v w a b cs ds is js us ws e f g h i = cc

pub file_once : (bytes : List ℕ) (c d : Certificate) → IsCertificateFile bytes c → IsCertificateFile bytes d → c ≡ d
file_once bytes c d left right =
    let same : right.value ≡ left.value = same_Some right.value left.value (sym right.reads ∙ left.reads) in
    certificate_once left.value c d left.says (subst (λ v. IsCertificateValue v d) same right.says)
