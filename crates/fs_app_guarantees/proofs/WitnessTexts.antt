-- The text of a witness is a file that says it, where its numbers are small.
use Rattle.std.proofs.Common.{◌≡◌, ℕ, suc, ◌<◌, ◌≤◌, ◌^◌, Bool, true, false, nat_le, ◌&&◌, Option, None, Some, if◌then◌else◌, List, [], ◌∷◌, ◌++◌, map, length, IsUtf8, codes, decimal, option_map, refl, ap, arith}
use Rattle.std.proofs.lemmas.Bool.{le-leb, leb-true, and_from, and_parts, false≢true}
use Rattle.std.proofs.lemmas.Fmt.{IsAscii-decimal}
use Rattle.std.proofs.lemmas.Str.{IsUtf8-append, IsUtf8-nil, IsUtf8-from_ascii}
use Rattle.json.specs.Lex.{tokens}
use Rattle.json.specs.Json as json
use Rattle.json.specs.Tree as tree
use Rattle.json.proofs.Printed.Decimals.{IsNumber-decimal}
use Rattle.json.proofs.Printed.Tokens.{tokens-print}
use Rattle.json.proofs.Printed.Trees.{value-json_tokens, ArePrintable-json_tokens}
use Rattle.json.proofs.Printed.Utf8.{IsUtf8-are_ascii, IsUtf8-boolean, IsUtf8-quoted}
use Rattle.std.proofs.Common.{option_and_then, append-nil, sym, ◌∙◌}
use Rattle.serde_json.specs.Data as json_value
use Rattle.serde_json.specs.Data.{Data, array, boolean, string, Items, no_items, item}
use Rattle.serde_json.specs.Find.{as_bool, as_number, as_u64}
use Rattle.serde_json.specs.Read.{of_json, of_items, max_depth, read}
use Rattle.serde_json.specs.Written.{outline, items_outline, compact_text, items_text, comma_if}
use Rattle.serde_json.proofs.Numbers.{number_of-decimal}
use Rattle.serde_json.proofs.Texts.{print-outline}
use Rattle.fs_kinds.specs.declared.reason.OperationName.{OperationName as Name}
use Rattle.fs_kinds.specs.PriceObject.{within}
use Rattle.fs_kinds.specs.ReasonText.{operation_name}
use Rattle.fs_kinds.proofs.PlaceNames.{name-printed}
use Rattle.fs_model.specs.declared.step.Choice.{Choice}
use Rattle.fs_model.specs.declared.step.Choice.TheVariants.{Word, Success, Failure}
use Rattle.fs_model.specs.Witness.{Witness}
use Rattle.fs_cert_evidence.specs.Texts.{items_of, array_of, members_of, number, choice_value, witness_value, witness_text, line}
use Rattle.fs_cert_evidence.specs.WitnessFile.{EachItem, IsArrayOf, IsChoice, choice_from, IsName, IsWitnessFile, most_word}
use Rattle.fs_app_guarantees.proofs.LineEnds.{reads_line}

-- ---- texts that read back

-- the value's text reads as the value, which nests at most so deep
record ReadsBack (most : ℕ) (d : Data) : Type 0 where
  back : of_json (outline d) ≡ Some d
  numbers : tree.HasNumbers (outline d)
  low : tree.depth (outline d) ≤ most
  utf8 : IsUtf8 (compact_text d)

abbrev AllReadBack : ℕ → List Data → Type 0
AllReadBack most [] = Unit {0}
AllReadBack most (d ∷ ds) = ReadsBack most d × AllReadBack most ds

items_back : (most : ℕ) (ds : List Data) → AllReadBack most ds → of_items (items_outline (items_of ds)) ≡ Some (items_of ds)
items_back most [] all = refl
items_back most (d ∷ ds) all = rw (all.0.back, items_back most ds all.1) refl

items_numbers : (most : ℕ) (ds : List Data) → AllReadBack most ds → tree.ItemsHaveNumbers (items_outline (items_of ds))
items_numbers most [] all = tt
items_numbers most (d ∷ ds) all = (all.0.numbers, items_numbers most ds all.1)

items_low : (most : ℕ) (ds : List Data) → AllReadBack most ds → tree.items_depth (items_outline (items_of ds)) ≤ most
items_low most [] all = omega arith
items_low most (d ∷ ds) all = let here = all.0.low in let rest = items_low most ds all.1 in omega (arith, here, rest)

comma : (later : Bool) → IsUtf8 (comma_if later)
comma true = IsUtf8-are_ascii (44 ∷ []) refl
comma false = IsUtf8-nil

items_utf8 : (most : ℕ) (later : Bool) (ds : List Data) → AllReadBack most ds → IsUtf8 (items_text later (items_of ds))
items_utf8 most later [] all = IsUtf8-are_ascii (93 ∷ []) refl
items_utf8 most later (d ∷ ds) all =
    IsUtf8-append (comma_if later) _ (comma later) (IsUtf8-append (compact_text d) _ all.0.utf8 (items_utf8 most true ds all.1))

array_back : (most : ℕ) (ds : List Data) → AllReadBack most ds → ReadsBack (suc most) (array_of ds)
array_back most ds all = record {
  back = ap (option_map array) (items_back most ds all);
  numbers = items_numbers most ds all;
  low = let here = items_low most ds all in omega (arith, here);
  utf8 = IsUtf8-append (91 ∷ []) _ (IsUtf8-are_ascii (91 ∷ []) refl) (items_utf8 most false ds all);
}

decimal_utf8 : (n : ℕ) → n < 2 ^ 64 → IsUtf8 (decimal n)
decimal_utf8 n low = IsUtf8-from_ascii (decimal n) (IsAscii-decimal n low)

number_back : (n : ℕ) → n < 2 ^ 64 → ReadsBack 0 (number n)
number_back n low = record { back = ap (option_map json_value.number) (number_of-decimal n low); numbers = IsNumber-decimal n low; low = omega arith; utf8 = decimal_utf8 n low }

boolean_back : (b : Bool) → ReadsBack 0 (boolean b)
boolean_back b = record { back = refl; numbers = tt; low = omega arith; utf8 = IsUtf8-boolean b }

string_back : (s : List ℕ) → IsUtf8 s → ReadsBack 0 (string s)
string_back s utf8 = record { back = refl; numbers = tt; low = omega arith; utf8 = IsUtf8-quoted s utf8 }

-- an object of a witness's two members
abbrev pair_value : Data → Data → Data
pair_value lists names = json_value.object (members_of ((codes "choices", lists) ∷ (codes "order", names) ∷ []))

pair_back : (most : ℕ) (lists names : Data) → ReadsBack most lists → ReadsBack most names → ReadsBack (suc most) (pair_value lists names)
pair_back most lists names a b = record {
  back = rw (a.back, b.back) refl;
  numbers = (a.numbers, (b.numbers, tt));
  low = let left = a.low in let right = b.low in omega (arith, left, right);
  utf8 =
      IsUtf8-append (123 ∷ []) _ (IsUtf8-are_ascii (123 ∷ []) refl)
      (IsUtf8-append _ _ (IsUtf8-quoted (codes "choices") (IsUtf8-are_ascii _ refl))
      (IsUtf8-append (58 ∷ []) _ (IsUtf8-are_ascii (58 ∷ []) refl)
      (IsUtf8-append (compact_text lists) _ a.utf8
      (IsUtf8-append (44 ∷ []) _ (IsUtf8-are_ascii (44 ∷ []) refl)
      (IsUtf8-append _ _ (IsUtf8-quoted (codes "order") (IsUtf8-are_ascii _ refl))
      (IsUtf8-append (58 ∷ []) _ (IsUtf8-are_ascii (58 ∷ []) refl)
      (IsUtf8-append (compact_text names) _ b.utf8 (IsUtf8-are_ascii (125 ∷ []) refl))))))));
}

deeper : (less more : ℕ) (d : Data) → less ≤ more → ReadsBack less d → ReadsBack more d
deeper less more d low h = record { back = h.back; numbers = h.numbers; low = let here = h.low in omega (arith, here, low); utf8 = h.utf8 }

reads_back : (d : Data) → ReadsBack max_depth d → read (compact_text d) ≡ Some d
reads_back d h =
    ap (λ o. option_and_then of_json (option_and_then (λ p. json.if_last p.0 p.1) o))
    (ap (json.value max_depth) (ap tokens (sym (print-outline d)) ∙ tokens-print _ (ArePrintable-json_tokens (outline d) h.numbers) ∙ sym (append-nil _))
    ∙ value-json_tokens (outline d) max_depth [] h.low)
    ∙ h.back

-- ---- items one by one

abbrev pub Each : {A : Type 0} → (A → Type 0) → List A → Type 0
Each Q [] = Unit {0}
Each Q (x ∷ xs) = Q x × Each Q xs

all_written : {A : Type 0} (most : ℕ) (f : A → Data) (Q : A → Type 0) → ((x : A) → Q x → ReadsBack most (f x)) → (xs : List A) → Each Q xs → AllReadBack most (map f xs)
all_written most f Q each [] all = tt
all_written most f Q each (x ∷ xs) all = (each x all.0, all_written most f Q each xs all.1)

all_said : {A : Type 0} (f : A → Data) (P : Data → A → Type 0) (Q : A → Type 0) → ((x : A) → Q x → P (f x) x) → (xs : List A) → Each Q xs
    → EachItem P (items_of (map f xs)) xs
all_said f P Q each [] all = tt
all_said f P Q each (x ∷ xs) all = (each x all.0, all_said f P Q each xs all.1)

array_says : {A : Type 0} (f : A → Data) (P : Data → A → Type 0) (Q : A → Type 0) → ((x : A) → Q x → P (f x) x) → (xs : List A) → Each Q xs
    → IsArrayOf P (array_of (map f xs)) xs
array_says f P Q each xs all = (items_of (map f xs), refl, all_said f P Q each xs all)

-- ---- choices and names

-- a word of 32 bits
abbrev pub IsSmallChoice : Choice → Type 0
IsSmallChoice (Word w) = w < 2 ^ 32
IsSmallChoice Success = Unit {0}
IsSmallChoice Failure = Unit {0}

-- numbers of one byte
abbrev pub IsSmallName : Name → Type 0
IsSmallName name = (name.hart < 256) × (name.at < 256)

choice_back : (choice : Choice) → IsSmallChoice choice → ReadsBack 0 (choice_value choice)
choice_back (Word w) small = number_back w (omega (arith, small))
choice_back Success small = boolean_back true
choice_back Failure small = boolean_back false

within_if : (b : Bool) (w : ℕ) → b ≡ true → ◌≡◌ {A = Option ℕ} (if b then Some w else None) (Some w)
within_if true w e = refl
within_if false w e = absurd (false≢true e)

within_is : (w : ℕ) → w ≤ most_word → within 0 most_word w ≡ Some w
within_is w low = within_if (nat_le 0 w && nat_le w most_word) w (and_from _ _ (le-leb 0 w (omega arith)) (le-leb w most_word low))

choice_says : (choice : Choice) → IsSmallChoice choice → IsChoice (choice_value choice) choice
choice_says (Word w) small = ap (choice_from None) (within_is w (omega (arith, small)))
choice_says Success small = refl
choice_says Failure small = refl

name_utf8 : (name : Name) → IsSmallName name → IsUtf8 (operation_name name)
name_utf8 name small =
    IsUtf8-append (codes "P" ++ decimal name.hart ++ codes ":") (decimal name.at)
    (IsUtf8-append (codes "P" ++ decimal name.hart) (codes ":")
    (IsUtf8-append (codes "P") (decimal name.hart) (IsUtf8-are_ascii (80 ∷ []) refl) (decimal_utf8 name.hart (omega (arith, small.0))))
    (IsUtf8-are_ascii (58 ∷ []) refl))
    (decimal_utf8 name.at (omega (arith, small.1)))

abbrev name_value : Name → Data
name_value name = string (operation_name name)

name_back : (name : Name) → IsSmallName name → ReadsBack 0 (name_value name)
name_back name small = string_back (operation_name name) (name_utf8 name small)

name_says : (name : Name) → IsSmallName name → IsName (name_value name) name
name_says name small = (operation_name name, refl, name-printed name small.0 small.1)

abbrev choices_value : List Choice → Data
choices_value choices = array_of (map choice_value choices)

choices_back : (choices : List Choice) → Each IsSmallChoice choices → ReadsBack 1 (choices_value choices)
choices_back choices small = array_back 0 (map choice_value choices) (all_written 0 choice_value IsSmallChoice choice_back choices small)

choices_say : (choices : List Choice) → Each IsSmallChoice choices → IsArrayOf IsChoice (choices_value choices) choices
choices_say choices small = array_says choice_value IsChoice IsSmallChoice choice_says choices small

-- ---- the witness

-- its words are of 32 bits, and the numbers of its names of 8
pub record IsSmall (w : Witness) : Type 0 where
  pub choices : Each (Each IsSmallChoice) w.choices
  pub names : Each IsSmallName w.order

module _ (w : Witness) (small : IsSmall w) where
  abbrev lists : Data
  lists = array_of (map choices_value w.choices)

  abbrev names : Data
  names = array_of (map name_value w.order)

  lists_back : ReadsBack 2 lists
  lists_back = array_back 1 (map choices_value w.choices) (all_written 1 choices_value (Each IsSmallChoice) choices_back w.choices small.choices)

  names_back : ReadsBack 1 names
  names_back = array_back 0 (map name_value w.order) (all_written 0 name_value IsSmallName name_back w.order small.names)

  witness_back : ReadsBack 3 (witness_value w)
  witness_back = pair_back 2 lists names lists_back (deeper 1 2 names (omega arith) names_back)

  pub text_says : IsWitnessFile (length w.choices) (witness_text w) w
  text_says = record {
    utf8 = witness_back.utf8;
    value = witness_value w;
    reads = reads_back (witness_value w) (deeper 3 max_depth (witness_value w) (omega arith) witness_back);
    says = record {
      lists = lists;
      names = names;
      pair = record { keys = refl; choices = refl; order = refl };
      choices = array_says choices_value (IsArrayOf IsChoice) (Each IsSmallChoice) choices_say w.choices small.choices;
      order = array_says name_value IsName IsSmallName name_says w.order small.names;
    };
    lists = refl;
  }

-- ---- its line

-- what a file says of a hart's choices are small ones
abbrev if_true : Bool → ℕ → Option ℕ
if_true b n = if b then Some n else None

word_if : (b : Bool) (n w : ℕ) → (nat_le 0 n && nat_le n most_word) ≡ b → option_map Word (if_true b n) ≡ Some (Word w) → w < 2 ^ 32
word_if true n w test e =
    let same : n ≡ w = (let both : Some (Word n) ≡ Some (Word w) = e in cc) in
    omega (arith, same, leb-true n most_word (and_parts (nat_le 0 n) (nat_le n most_word) test).1)
word_if false n w test e = absurd (let none : None ≡ Some (Word w) = e in cc)

word_said : (success : Option Bool) (read : Option ℕ) (w : ℕ) → choice_from success (option_and_then (within 0 most_word) read) ≡ Some (Word w) → w < 2 ^ 32
word_said (Some true) read w e = absurd (let other : Some Success ≡ Some (Word w) = e in cc)
word_said (Some false) read w e = absurd (let other : Some Failure ≡ Some (Word w) = e in cc)
word_said None None w e = absurd (let none : None ≡ Some (Word w) = e in cc)
word_said None (Some n) w e = word_if (nat_le 0 n && nat_le n most_word) n w refl e

choice_said : (d : Data) (choice : Choice) → IsChoice d choice → IsSmallChoice choice
choice_said d (Word w) says = word_said (as_bool d) (option_and_then as_u64 (as_number d)) w says
choice_said d Success says = tt
choice_said d Failure says = tt

each_said : {A : Type 0} (P : Data → A → Type 0) (Q : A → Type 0) → ((d : Data) (x : A) → P d x → Q x) → (ds : Items) (xs : List A) → EachItem P ds xs → Each Q xs
each_said P Q one no_items [] all = tt
each_said P Q one no_items (x ∷ xs) all = absurd all
each_said P Q one (item d ds) [] all = absurd all
each_said P Q one (item d ds) (x ∷ xs) all = (one d x all.0, each_said P Q one ds xs all.1)

array_said : (d : Data) (choices : List Choice) → IsArrayOf IsChoice d choices → Each IsSmallChoice choices
array_said d choices says = each_said IsChoice IsSmallChoice choice_said says.0 choices says.2

names_numbers : (names : List Name) → tree.ItemsHaveNumbers (items_outline (items_of (map name_value names)))
names_numbers [] = tt
names_numbers (name ∷ names) = (tt, names_numbers names)

value_numbers : (w : Witness) → Each (Each IsSmallChoice) w.choices → tree.HasNumbers (outline (witness_value w))
value_numbers w small =
    let lists = array_back 1 (map choices_value w.choices) (all_written 1 choices_value (Each IsSmallChoice) choices_back w.choices small) in
    (lists.numbers, (names_numbers w.order, tt))

-- where the text is a file that says the witness, so is the line
pub line_says : (harts : ℕ) (w : Witness) → IsWitnessFile harts (witness_text w) w → IsWitnessFile harts (line (witness_text w)) w
line_says harts w file =
    let lists = file.says.choices in
    let small : Each (Each IsSmallChoice) w.choices =
    each_said (IsArrayOf IsChoice) (Each IsSmallChoice) array_said lists.0 w.choices lists.2 in
    record {
      utf8 = IsUtf8-append (witness_text w) (10 ∷ []) file.utf8 (IsUtf8-are_ascii (10 ∷ []) refl);
      value = file.value;
      reads = reads_line (witness_value w) (value_numbers w small) ∙ file.reads;
      says = file.says;
      lists = file.lists;
    }
