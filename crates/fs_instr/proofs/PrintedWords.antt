-- A word that is printed before something other than a letter is one token.
use Rattle.std.proofs.Common.{◌≡◌, ℕ, ◌<◌, ◌^◌, List, [], ◌∷◌, ◌++◌, Option, Some, Bool, true, false, ◌&&◌, cond, refl, sym, ap, ◌∙◌, subst, length, take, drop, arith, eqb}
use Rattle.std.proofs.lemmas.Bool.Decides.{nat_tests}
use Rattle.std.proofs.lemmas.Grind.{common_steps}
use Rattle.std.proofs.lemmas.Slice.Eq.{bytes_eq-Decides}
use Rattle.std.proofs.Math.Seq.{take-append_seam, drop-append_seam}
use Rattle.std.specs.List.{prefix_len}
use Rattle.std.specs.Str.{bytes_eq}
use Rattle.std.specs.Str.Parse.{AllDigits}
use Rattle.std.specs.Char.{digit_value}
use Rattle.fs_litmus_tokens.specs.Bytes.{is_letter, is_blank}
use Rattle.fs_litmus_tokens.specs.Tokens.{Front, Take, piece, word, Lined, AreTokens, token}
use Rattle.std.specs.Fmt.{decimal}
use Rattle.std.proofs.lemmas.Fmt.{decimal_is_IsNumeral}
use Rattle.fs_instr.specs.Rows.{look_up}
use Rattle.fs_instr.specs.PrintedTokens.{IsApart}

abbrev pub all_letters : List ℕ → Bool
all_letters [] = true
all_letters (b ∷ bs) = is_letter b && all_letters bs

-- one letter or more
abbrev pub is_word : List ℕ → Bool
is_word [] = false
is_word (b ∷ bs) = all_letters (b ∷ bs)

both_true : (a b : Bool) → (a && b) ≡ true → (a ≡ true) × (b ≡ true)
both_true true b e = (refl, e)
both_true false b e = absurd (cc)

front_len : (w rest : List ℕ) → all_letters w ≡ true → IsApart rest → prefix_len is_letter (w ++ rest) ≡ length w
front_len [] [] h apart = refl
front_len [] (b ∷ bs) h apart = rw apart refl
front_len (c ∷ cs) rest h apart =
    let both = both_true (is_letter c) (all_letters cs) h in
    let later = front_len cs rest both.1 apart in
    rw both.0 (omega (arith, later))

no_line_end : (b : ℕ) → is_letter b ≡ true → eqb b 10 ≡ false
no_line_end b e = grind (arith, nat_tests, common_steps)

no_blank : (b : ℕ) → is_letter b ≡ true → is_blank b ≡ false
no_blank b e = grind (arith, nat_tests, common_steps)

-- the token that so many bytes are
cut : List ℕ → ℕ → Front
cut all n = Take (word (take n all)) (drop n all)

cut_word : (w rest : List ℕ) → cut (w ++ rest) (length w) ≡ Take (word w) rest
unfolding cut
cut_word w rest = rw (take-append_seam w rest, drop-append_seam w rest) refl

picked : {A : Type 0} (c : Bool) (x y z : A) → c ≡ true → x ≡ z → cond c x y ≡ z
picked true x y z e h = h
picked false x y z e h = absurd (cc)

passed_over : {A : Type 0} (c : Bool) (x y z : A) → c ≡ false → y ≡ z → cond c x y ≡ z
passed_over true x y z e h = absurd (cc)
passed_over false x y z e h = h

pub piece_word : (b : ℕ) (w rest : List ℕ) (line : ℕ) → all_letters (b ∷ w) ≡ true → IsApart rest → piece b (w ++ rest) line ≡ Take (word (b ∷ w)) rest
unfolding cut
piece_word b w rest line h apart =
    let both = both_true (is_letter b) (all_letters w) h in
    let all : cut ((b ∷ w) ++ rest) (prefix_len is_letter ((b ∷ w) ++ rest)) ≡ Take (word (b ∷ w)) rest =
    ap (cut ((b ∷ w) ++ rest)) (front_len (b ∷ w) rest h apart) ∙ cut_word (b ∷ w) rest in
    passed_over _ _ _ _ (no_line_end b both.0) (passed_over _ _ _ _ (no_blank b both.0) (picked _ _ _ _ both.0 all))

-- ---- which words are words

pub word_prints : (w rest : List ℕ) (line : ℕ) (ts : List Lined) (closed : Bool) → is_word w ≡ true → IsApart rest → AreTokens rest line ts closed → AreTokens (w ++ rest) line ((word w, line) ∷ ts) closed
word_prints [] rest line ts closed e apart h = absurd (cc)
word_prints (b ∷ w) rest line ts closed e apart h = token (piece_word b w rest line e apart) h

digit_letter : (c : ℕ) → digit_value c < 10 → is_letter c ≡ true
digit_letter c h = grind (arith, nat_tests, common_steps)

digits_letters : (ds : List ℕ) → AllDigits 10 ds → all_letters ds ≡ true
digits_letters [] h = refl
digits_letters (c ∷ cs) h = rw (digit_letter c h.0) (digits_letters cs h.1)

some_digits : (ds : List ℕ) → 0 < length ds → AllDigits 10 ds → is_word ds ≡ true
some_digits [] some h = absurd (omega arith)
some_digits (c ∷ cs) some h = digits_letters (c ∷ cs) h

pub decimal_word : (n : ℕ) → n < 2 ^ 32 → is_word (decimal n) ≡ true
decimal_word n small =
    let d = decimal_is_IsNumeral n (omega arith) in
    some_digits (decimal n) d.0.0 d.0.1

-- a letter and a number, as x5 and L2
pub lettered_word : (b n : ℕ) → is_letter b ≡ true → n < 2 ^ 32 → is_word (b ∷ decimal n) ≡ true
lettered_word b n e small =
    let d = decimal_is_IsNumeral n (omega arith) in
    rw e (digits_letters (decimal n) d.0.1)

same_bytes : (a b : List ℕ) → bytes_eq a b ≡ true → a ≡ b
same_bytes a b e = (bytes_eq-Decides a b).0 e

-- what a table finds is a word, where its names are
abbrev pub rows_words : {A : Type 0} → List (List ℕ × A) → Bool
rows_words [] = true
rows_words (row ∷ rows) = is_word row.0 && rows_words rows

either_word : {A : Type 0} (c : Bool) (x y : A) (o : Option A) (w : List ℕ) → (c ≡ true → is_word w ≡ true) → (o ≡ Some y → is_word w ≡ true) → cond c (Some x) o ≡ Some y → is_word w ≡ true
either_word true x y o w one two e = one refl
either_word false x y o w one two e = two e

pub found_word : {A : Type 0} (rows : List (List ℕ × A)) (w : List ℕ) (a : A) → rows_words rows ≡ true → look_up rows w ≡ Some a → is_word w ≡ true
found_word [] w a t e = absurd (cc)
found_word (row ∷ rows) w a t e =
    let both = both_true (is_word row.0) (rows_words rows) t in
    either_word (bytes_eq w row.0) row.1 a (look_up rows w) w (λ same. subst (λ x. is_word x ≡ true) (sym (same_bytes w row.0 same)) both.0) (λ later. found_word rows w a both.1 later) e
