-- The words of a text have the class of their letters, and a word that may be a name is a name.
use Rattle.std.proofs.Common.{◌≡◌, ℕ, suc, ◌+◌, List, [], ◌∷◌, Bool, true, false, ◌&&◌, ◌||◌, ◌==◌, cond, not, Option, Some, None, refl, sym, ◌∙◌, subst, take, arith}
use Rattle.std.specs.Prelude.{codes}
use Rattle.std.specs.Char.{is_ascii_alphabetic, is_ascii_alphanumeric}
use Rattle.std.specs.List.{prefix_len, list_all}
use Rattle.std.specs.Str.{bytes_eq}
use Rattle.std.proofs.lemmas.Slice.Eq.{bytes_eq-Decides}
use Rattle.fs_litmus_tokens.specs.declared.word.Class.{Class}
use Rattle.fs_litmus_tokens.specs.declared.word.Class.TheVariants as class
use Rattle.fs_litmus_tokens.specs.declared.token.Mark.{Mark}
use Rattle.fs_litmus_tokens.specs.Bytes.{is_letter, is_blank, begins, tail, comment_end}
use Rattle.fs_litmus_tokens.specs.Words as words
use Rattle.fs_litmus_tokens.specs.Words.{keyword_of, classed, plain_class, class_or, class_of, is_number, begins_name, has_dot}
use Rattle.fs_litmus_tokens.specs.Tokens.{Tok, Word, Lined, Front, Skip, Take, Unclosed, after_comment, single, mark_of, piece, AreTokens, none as no_tokens, skip, token, unclosed}
use Rattle.fs_model.specs.Test.{is_name}
use Rattle.fs_litmus.proofs.Bools.{both, neither, both_true}

-- the word is made of letters, and has its class
pub record IsClassed (c : Class) (w : List ℕ) : Type 0 where
  pub class : c ≡ class_of w
  pub letters : list_all is_letter w ≡ true

-- a word has its class
abbrev pub IsWordClassed : Tok → Type 0
IsWordClassed (Word c w) = IsClassed c w
IsWordClassed _ = Unit {0}

abbrev pub AreClassed : List Lined → Type 0
AreClassed [] = Unit {0}
AreClassed (t ∷ ts) = IsWordClassed t.0 × AreClassed ts

-- ---- what is cut from the text

-- so has a word that is taken
abbrev TakesClassed : Front → Type 0
TakesClassed (Take t rest) = IsWordClassed t
TakesClassed (Skip rest next) = Unit {0}
TakesClassed Unclosed = Unit {0}

either : (b : Bool) (x y : Front) → TakesClassed x → TakesClassed y → TakesClassed (cond b x y)
either true x y h k = h
either false x y h k = k

letters_step : (b : ℕ) (bs : List ℕ) (r : Bool) → is_letter b ≡ r → list_all is_letter (take (prefix_len is_letter bs) bs) ≡ true → list_all is_letter (take (cond r (1 + prefix_len is_letter bs) 0) (b ∷ bs)) ≡ true
letters_step b bs true e h =
    let same : suc (prefix_len is_letter bs) ≡ 1 + prefix_len is_letter bs = omega arith in
    subst (λ n. list_all is_letter (take n (b ∷ bs)) ≡ true) same (rw e h)
letters_step b bs false e h = refl

front_letters : (bs : List ℕ) → list_all is_letter (take (prefix_len is_letter bs) bs) ≡ true
front_letters [] = refl
front_letters (b ∷ bs) = letters_step b bs (is_letter b) refl (front_letters bs)

after_classed : (o : Option (List ℕ × ℕ)) → TakesClassed (after_comment o)
after_classed None = tt
after_classed (Some (rest, next)) = tt

one_classed : (m : Option Mark) (bs : List ℕ) → TakesClassed (single m bs)
one_classed None bs = tt
one_classed (Some m) bs = tt

piece_classed : (b : ℕ) (bs : List ℕ) (line : ℕ) → TakesClassed (piece b bs line)
piece_classed b bs line =
    either (b == 10) _ _ tt (
    either (is_blank b) _ _ tt (
    either (is_letter b) _ _ (record { class = refl; letters = front_letters (b ∷ bs) }) (
    either (b == 47 && begins 92 bs) _ _ tt (
    either (b == 92 && begins 47 bs) _ _ tt (
    either (b == 40 && begins 42 bs) _ _ (after_classed (comment_end (tail bs) line)) (one_classed (mark_of b) bs))))))

pub tokens_classed : {bs : List ℕ} {line : ℕ} {ts : List Lined} {closed : Bool} → AreTokens bs line ts closed → AreClassed ts
tokens_classed no_tokens = tt
tokens_classed (skip e h) = tokens_classed h
tokens_classed (token {b = b} {line = line} {bs = bs} e h) = (subst TakesClassed e (piece_classed b bs line), tokens_classed h)
tokens_classed (unclosed e) = tt

-- ---- words that may be names

abbrev are_names : List (List ℕ × Class) → Bool
are_names [] = true
are_names (row ∷ rows) = is_name row.0 && are_names rows

named_by : (test named : Bool) (w v : List ℕ) (c d : Class) (o : Option Class) → bytes_eq w v ≡ test → is_name v ≡ true → (o ≡ Some c → is_name w ≡ true) → cond test (Some d) o ≡ Some c → is_name w ≡ true
named_by true named w v c d o e h later f = subst (λ x. is_name x ≡ true) (sym ((bytes_eq-Decides w v).0 e)) h
named_by false named w v c d o e h later f = later f

keyword_named : (rows : List (List ℕ × Class)) (w : List ℕ) (c : Class) → are_names rows ≡ true → classed rows w ≡ Some c → is_name w ≡ true
keyword_named [] w c h e = absurd (cc)
keyword_named (row ∷ rows) w c h e =
    let s = both (is_name row.0) (are_names rows) h in
    named_by (bytes_eq w row.0) true w row.0 c row.1 (classed rows w) refl s.0 (λ later. keyword_named rows w c s.1 later) e

keyword_is_name : (w : List ℕ) (c : Class) → keyword_of w ≡ Some c → is_name w ≡ true
unfolding keyword_of
keyword_is_name w c e = keyword_named (
    (codes "locations", class.LocationsWord) ∷
    (codes "exists", class.ExistsWord) ∷
    (codes "forall", class.ForallWord) ∷
    (codes "not", class.NotWord) ∷
    (codes "true", class.TrueWord) ∷
    (codes "false", class.FalseWord) ∷
    []) w c refl e

-- a letter that is no dot
plain_letter : (a u d : Bool) → (a || (u || d)) ≡ true → d ≡ false → (a || u) ≡ true
plain_letter true u d e f = refl
plain_letter false true d e f = refl
plain_letter false false d e f = absurd (cc)

letters_plain : (w : List ℕ) → list_all is_letter w ≡ true → has_dot w ≡ false → list_all (λ d. is_ascii_alphanumeric d || d == 95) w ≡ true
letters_plain [] h k = refl
letters_plain (c ∷ cs) h k =
    let l = both (is_letter c) (list_all is_letter cs) h in
    let d = neither (c == 46) (has_dot cs) k in
    both_true (is_ascii_alphanumeric c || c == 95) (list_all (λ d. is_ascii_alphanumeric d || d == 95) cs) (plain_letter (is_ascii_alphanumeric c) (c == 95) (c == 46) l.0 d.0) (letters_plain cs l.1 d.1)

begins_is_name : (w : List ℕ) → list_all is_letter w ≡ true → begins_name w ≡ true → has_dot w ≡ false → is_name w ≡ true
begins_is_name [] h b d = absurd (cc)
begins_is_name (c ∷ cs) h b d =
    let l = both (is_letter c) (list_all is_letter cs) h in
    let n = neither (c == 46) (has_dot cs) d in
    both_true (is_ascii_alphabetic c || c == 95) (list_all (λ d. is_ascii_alphanumeric d || d == 95) cs) b (letters_plain cs l.1 n.1)

not_true : (b : Bool) → not b ≡ true → b ≡ false
not_true true e = absurd (cc)
not_true false e = refl

plain_is_name : (w : List ℕ) (n b : Bool) → (begins_name w && not (has_dot w)) ≡ b → list_all is_letter w ≡ true → words.is_name (cond n class.Number (cond b class.Name class.Other)) ≡ true → is_name w ≡ true
plain_is_name w true b e h k = absurd (cc)
plain_is_name w false true e h k = let s = both (begins_name w) (not (has_dot w)) e in begins_is_name w h s.0 (not_true (has_dot w) s.1)
plain_is_name w false false e h k = absurd (cc)

class_is_name : (w : List ℕ) (o : Option Class) → keyword_of w ≡ o → list_all is_letter w ≡ true → words.is_name (class_or o (plain_class w)) ≡ true → is_name w ≡ true
class_is_name w None e h k = plain_is_name w (is_number w) (begins_name w && not (has_dot w)) refl h k
class_is_name w (Some c) e h k = keyword_is_name w c e

opened : (w : List ℕ) → class_of w ≡ class_or (keyword_of w) (plain_class w)
unfolding class_of
opened w = refl

pub classed_is_name : {c : Class} {w : List ℕ} → IsClassed c w → words.is_name c ≡ true → is_name w ≡ true
classed_is_name {c = c} {w = w} h k =
    class_is_name w (keyword_of w) refl h.letters (subst (λ d. words.is_name d ≡ true) (h.class ∙ opened w) k)
