-- The classes of the words that are printed.
use Rattle.std.proofs.Common.{◌≡◌, ℕ, suc, ◌<◌, ◌^◌, List, [], ◌∷◌, ◌++◌, Option, Some, None, Bool, true, false, not, ◌&&◌, ◌||◌, cond, eqb, length, codes, refl, sym, ap, subst, arith}
use Rattle.std.proofs.lemmas.Bool.Decides.{nat_tests}
use Rattle.std.proofs.lemmas.Grind.{common_steps}
use Rattle.std.proofs.lemmas.Fmt.{decimal_is_IsNumeral}
use Rattle.std.specs.Char.{digit_value, is_ascii_digit, is_ascii_alphabetic, is_ascii_alphanumeric}
use Rattle.std.specs.Fmt.{decimal}
use Rattle.std.specs.List.{list_any, list_all}
use Rattle.std.specs.Str.{bytes_eq}
use Rattle.std.specs.Prelude.{if◌then◌else◌, IsTrue}
use Rattle.std.specs.Str.Parse.{AllDigits}
use Rattle.std.specs.Option.{option_or}
use Rattle.std.proofs.lemmas.Slice.Eq.{bytes_eq-Decides}
use Rattle.fs_litmus_tokens.specs.Tokens.{Tok, Word, word}
use Rattle.fs_litmus_tokens.specs.Words.{class_of, keyword_of, is_number, is_name, plain_class, class_or, begins_name, has_dot, classed}
use Rattle.fs_litmus_tokens.specs.declared.word.Class.{Class}
use Rattle.fs_litmus_tokens.specs.declared.word.Class.TheVariants as class
use Rattle.fs_litmus_syntax.specs.Body.{is_stop}
use Rattle.fs_model.specs.Test as tests
use Rattle.fs_instr.specs.Rows.{look_up}
use Rattle.fs_instr.specs.Names.{op_of, name_text, register_names, immediate_names, branch_names, single_names, plain_names, acquiring_names, releasing_names, both_names, both_apart_names, short_names, short_branch_names, low_names}
use Rattle.fs_instr.specs.Instructions.{op_of_instr}
use Rattle.fs_instr.specs.OfTable.{IsOfTable}
use Rattle.fs_instr.specs.Spelled.{Spells, spells}
use Rattle.fs_instr.specs.declared.names.Op.{Op}
use Rattle.fs_instr.specs.declared.instr.Instr.{Instr}
use Rattle.fs_instr.proofs.ReadsBack.{reads_back}

-- ---- numbers

digit_is : (c : ℕ) → digit_value c < 10 → is_ascii_digit c ≡ true
digit_is c h = grind (arith, nat_tests, common_steps)

not_digit : (c b : ℕ) → digit_value c < 10 → 57 < b → eqb c b ≡ false
not_digit c b h high = grind (arith, nat_tests, common_steps)

not_digit_back : (c b : ℕ) → digit_value c < 10 → 57 < b → eqb b c ≡ false
not_digit_back c b h high = grind (arith, nat_tests, common_steps)

all_digits : (ds : List ℕ) → AllDigits 10 ds → list_all is_ascii_digit ds ≡ true
all_digits [] h = refl
all_digits (c ∷ cs) h = rw (digit_is c h.0) (all_digits cs h.1)

and_false : (b : Bool) → (b && false) ≡ false
and_false true = refl
and_false false = refl

-- no keyword begins with a digit
no_keyword : (c : ℕ) (cs : List ℕ) → digit_value c < 10 → keyword_of (c ∷ cs) ≡ None
unfolding keyword_of
no_keyword c cs h =
    rw (not_digit c 108 h (omega arith), not_digit c 101 h (omega arith), not_digit c 102 h (omega arith), not_digit c 110 h (omega arith), not_digit c 116 h (omega arith)) refl

not_empty : (n : ℕ) → eqb (suc n) 0 ≡ false
not_empty n = grind (arith, nat_tests, common_steps)

digits_number : (ds : List ℕ) → 0 < length ds → AllDigits 10 ds → is_number ds ≡ true
unfolding is_number
digits_number [] some h = absurd (omega arith)
digits_number (c ∷ []) some h = rw (and_false (eqb 48 c), digit_is c h.0) refl
digits_number (c ∷ d ∷ ds) some h =
    rw (not_digit_back d 120 h.1.0 (omega arith), and_false (eqb 48 c), digit_is c h.0, digit_is d h.1.0, all_digits ds h.1.1, not_empty (length (d ∷ ds))) refl

digits_class : (ds : List ℕ) → 0 < length ds → AllDigits 10 ds → class_of ds ≡ class.Number
unfolding class_of
digits_class [] some h = absurd (omega arith)
digits_class (c ∷ cs) some h = rw (no_keyword c cs h.0, digits_number (c ∷ cs) some h) refl

pub decimal_class : (n : ℕ) → n < 2 ^ 32 → class_of (decimal n) ≡ class.Number
decimal_class n small =
    let d = decimal_is_IsNumeral n (omega arith) in
    digits_class (decimal n) d.0.0 d.0.1

-- ---- names

both_true : (a b : Bool) → (a && b) ≡ true → (a ≡ true) × (b ≡ true)
both_true true b e = (refl, e)
both_true false b e = absurd (cc)

is_in_name : ℕ → Bool
is_in_name d = is_ascii_alphanumeric d || eqb d 95

begins : ℕ → Bool
begins c = is_ascii_alphabetic c || eqb c 95

not_zero : (c : ℕ) → begins c ≡ true → eqb 48 c ≡ false
unfolding begins
not_zero c h = grind (arith, nat_tests, common_steps)

no_digit : (c : ℕ) → begins c ≡ true → is_ascii_digit c ≡ false
unfolding begins
no_digit c h = grind (arith, nat_tests, common_steps)

no_first_dot : (c : ℕ) → begins c ≡ true → eqb c 46 ≡ false
unfolding begins
no_first_dot c h = grind (arith, nat_tests, common_steps)

no_dot : (c : ℕ) → is_in_name c ≡ true → eqb c 46 ≡ false
unfolding is_in_name
no_dot c h = grind (arith, nat_tests, common_steps)

no_dots : (cs : List ℕ) → list_all is_in_name cs ≡ true → list_any (λ c. eqb c 46) cs ≡ false
no_dots [] h = refl
no_dots (c ∷ cs) h =
    let both = both_true (is_in_name c) (list_all is_in_name cs) h in
    rw (no_dot c both.0) (no_dots cs both.1)

-- a keyword is a name too
abbrev rows_names : List (List ℕ × Class) → Bool
rows_names [] = true
rows_names (row ∷ rows) = is_name row.1 && rows_names rows

either_name : (b : Bool) (x y : Option Class) (plain : Class) → is_name (class_or x plain) ≡ true → is_name (class_or y plain) ≡ true → is_name (class_or (if b then x else y) plain) ≡ true
either_name true x y plain h k = h
either_name false x y plain h k = k

classed_name : (rows : List (List ℕ × Class)) (w : List ℕ) (plain : Class) → rows_names rows ≡ true → is_name plain ≡ true → is_name (class_or (classed rows w) plain) ≡ true
classed_name [] w plain names h = h
classed_name (row ∷ rows) w plain names h =
    let both = both_true (is_name row.1) (rows_names rows) names in
    either_name (bytes_eq w row.0) (Some row.1) (classed rows w) plain both.0 (classed_name rows w plain both.1 h)

abbrev keywords : List (List ℕ × Class)
keywords =
    (codes "locations", class.LocationsWord) ∷ (codes "exists", class.ExistsWord) ∷ (codes "forall", class.ForallWord) ∷
    (codes "not", class.NotWord) ∷ (codes "true", class.TrueWord) ∷ (codes "false", class.FalseWord) ∷ []

keyword_name : (w : List ℕ) (plain : Class) → is_name plain ≡ true → is_name (class_or (keyword_of w) plain) ≡ true
unfolding keyword_of
keyword_name w plain h = classed_name keywords w plain refl h

plain_name : (c : ℕ) (cs : List ℕ) → begins c ≡ true → list_all is_in_name cs ≡ true → plain_class (c ∷ cs) ≡ class.Name
unfolding is_number begins
plain_name c cs h all =
    rw (not_zero c h, no_digit c h, no_first_dot c h, no_dots cs all, h, and_false (not (eqb (suc (length cs)) 0))) refl

pub name_class : (w : List ℕ) → IsTrue (tests.is_name w) → is_name (class_of w) ≡ true
unfolding class_of begins is_in_name
name_class [] h = absurd (cc)
name_class (c ∷ cs) h =
    let both = both_true (begins c) (list_all is_in_name cs) h in
    keyword_name (c ∷ cs) (plain_class (c ∷ cs)) (ap is_name (plain_name c cs both.0 both.1))

-- ---- words that begin a row

either_plain : (number named : Bool) (w : List ℕ) → is_stop (Word (if number then class.Number else (if named then class.Name else class.Other)) w) ≡ false
either_plain true named w = refl
either_plain false true w = refl
either_plain false false w = refl

plain_begins : (w v : List ℕ) → is_stop (Word (plain_class w) v) ≡ false
plain_begins w v = either_plain (is_number w) (begins_name w && not (has_dot w)) v

pub label_begins : (n : ℕ) → is_stop (word (codes "L" ++ decimal n)) ≡ false
unfolding class_of keyword_of
label_begins n = plain_begins (76 ∷ decimal n) (76 ∷ decimal n)

-- the word may begin a row
abbrev begins_row : List ℕ → Bool
begins_row w = not (is_stop (word w))

abbrev rows_begin : {A : Type 0} → List (List ℕ × A) → Bool
rows_begin [] = true
rows_begin (row ∷ rows) = begins_row row.0 && rows_begin rows

same_bytes : (a b : List ℕ) → bytes_eq a b ≡ true → a ≡ b
same_bytes a b e = (bytes_eq-Decides a b).0 e

either_begins : {A : Type 0} (c : Bool) (x y : A) (o : Option A) (w : List ℕ) → (c ≡ true → begins_row w ≡ true) → (o ≡ Some y → begins_row w ≡ true) → cond c (Some x) o ≡ Some y → begins_row w ≡ true
either_begins true x y o w one two e = one refl
either_begins false x y o w one two e = two e

found_begins : {A : Type 0} (rows : List (List ℕ × A)) (w : List ℕ) (a : A) → rows_begin rows ≡ true → look_up rows w ≡ Some a → begins_row w ≡ true
found_begins [] w a t e = absurd (cc)
found_begins (row ∷ rows) w a t e =
    let both = both_true (begins_row row.0) (rows_begin rows) t in
    either_begins (bytes_eq w row.0) row.1 a (look_up rows w) w (λ same. subst (λ x. begins_row x ≡ true) (sym (same_bytes w row.0 same)) both.0) (λ later. found_begins rows w a both.1 later) e

or_begins : (a b : Option Op) (y : Op) (w : List ℕ) → (a ≡ Some y → begins_row w ≡ true) → (b ≡ Some y → begins_row w ≡ true) → option_or a b ≡ Some y → begins_row w ≡ true
or_begins None b y w one two e = two e
or_begins (Some x) b y w one two e = one e

op_begins : (w : List ℕ) (o : Op) → op_of w ≡ Some o → begins_row w ≡ true
unfolding class_of keyword_of is_number op_of register_names immediate_names branch_names single_names plain_names acquiring_names releasing_names both_names both_apart_names short_names short_branch_names low_names
op_begins w o e =
    or_begins (look_up register_names w) _ o w (found_begins register_names w o refl)
    (or_begins (look_up immediate_names w) _ o w (found_begins immediate_names w o refl)
    (or_begins (look_up branch_names w) _ o w (found_begins branch_names w o refl)
    (or_begins (look_up single_names w) _ o w (found_begins single_names w o refl)
    (or_begins (look_up plain_names w) _ o w (found_begins plain_names w o refl)
    (or_begins (look_up acquiring_names w) _ o w (found_begins acquiring_names w o refl)
    (or_begins (look_up releasing_names w) _ o w (found_begins releasing_names w o refl)
    (or_begins (look_up both_names w) _ o w (found_begins both_names w o refl)
    (or_begins (look_up both_apart_names w) _ o w (found_begins both_apart_names w o refl)
    (or_begins (look_up short_names w) _ o w (found_begins short_names w o refl)
    (or_begins (look_up short_branch_names w) _ o w (found_begins short_branch_names w o refl)
    (found_begins low_names w o refl))))))))))) e

not_true : (b : Bool) → not b ≡ true → b ≡ false
not_true true e = absurd (cc)
not_true false e = refl

spelled_begins : {c : Class} {w : List ℕ} {ts : List Tok} {i : Instr} {l : Option (List ℕ)} → Spells (Word c w ∷ ts) i l → is_stop (word w) ≡ false
spelled_begins (spells {w = w} {op = o} e h r) = not_true _ (op_begins w o e)

-- the name of an instruction may begin a row
pub name_begins : (i : Instr) → IsOfTable i → is_stop (word (name_text (op_of_instr i))) ≡ false
name_begins i h = spelled_begins (reads_back i h)
