-- A line end behind a printed JSON text changes no token, so the text reads as before.
use Rattle.std.proofs.Common.{◌≡◌, ℕ, Bool, true, false, cond, ◌&&◌, List, [], ◌∷◌, ◌++◌, option_and_then, refl, sym, ap, ap₂, subst, ◌∙◌, append_assoc, append-nil}
use Rattle.json.specs.Token.{Token, begin_object, end_object, begin_array, end_array, key, string, number, boolean, null, bad}
use Rattle.json.specs.Word.{ends_word, word}
use Rattle.json.specs.Lex.{token, comma, colon, string_token, lex, between, fresh, punctuate, tokens}
use Rattle.json.specs.Print.{escape, quoted, token_text, begins, ends, separator, print_from, print, IsPrintable, ArePrintable}
use Rattle.json.specs.Json as json
use Rattle.json.specs.Tree as tree
use Rattle.json.proofs.Printed.Strings.{content-escape, lex-escape}
use Rattle.json.proofs.Printed.Numbers.{lex-number, in_word-ended}
use Rattle.json.proofs.Printed.Trees.{ArePrintable-json_tokens}
use Rattle.serde_json.specs.Data.{Data}
use Rattle.serde_json.specs.Read.{of_json, max_depth, read}
use Rattle.serde_json.specs.Written.{outline, compact_text}
use Rattle.serde_json.proofs.Texts.{print-outline}

-- ---- behind one token

behind_text : (s r : List ℕ) → lex between (quoted s ++ r) ≡ token (string s) ∷ lex between r
unfolding lex
behind_text s r =
    ap (λ l. lex between (34 ∷ l)) (append_assoc (escape s) (34 ∷ []) r)
    ∙ ap₂ (λ o l. token (string_token o) ∷ l) (content-escape s r) (lex-escape s r)

behind_key : (s r : List ℕ) → lex between (token_text (key s) ++ r) ≡ token (string s) ∷ colon ∷ lex between r
unfolding lex
behind_key s r = ap (lex between) (append_assoc (quoted s) (58 ∷ []) r) ∙ behind_text s (58 ∷ r)

behind_true : (r : List ℕ) → ends_word r ≡ true → lex between (token_text (boolean true) ++ r) ≡ token (boolean true) ∷ lex between r
unfolding lex word
behind_true r ended = ap₂ (λ b l. token (cond b (boolean true) bad) ∷ l) ended (in_word-ended r ended)

behind_false : (r : List ℕ) → ends_word r ≡ true → lex between (token_text (boolean false) ++ r) ≡ token (boolean false) ∷ lex between r
unfolding lex word
behind_false r ended = ap₂ (λ b l. token (cond b (boolean false) bad) ∷ l) ended (in_word-ended r ended)

behind_null : (r : List ℕ) → ends_word r ≡ true → lex between (token_text null ++ r) ≡ token null ∷ lex between r
unfolding lex word
behind_null r ended = ap₂ (λ b l. token (cond b null bad) ∷ l) ended (in_word-ended r ended)

-- r and s are lexed alike, also where they end a word
record AreAlike (word_before : Bool) (r s : List ℕ) : Type 0 where
  lexed : lex between r ≡ lex between s
  left : word_before ≡ true → ends_word r ≡ true
  right : word_before ≡ true → ends_word s ≡ true

alike_behind : (t : Token) (r s : List ℕ) → IsPrintable t → AreAlike (ends t) r s → lex between (token_text t ++ r) ≡ lex between (token_text t ++ s)
unfolding lex
alike_behind begin_object r s h a = ap (λ l. token begin_object ∷ l) a.lexed
alike_behind end_object r s h a = ap (λ l. token end_object ∷ l) a.lexed
alike_behind begin_array r s h a = ap (λ l. token begin_array ∷ l) a.lexed
alike_behind end_array r s h a = ap (λ l. token end_array ∷ l) a.lexed
alike_behind (key k) r s h a = behind_key k r ∙ (ap (λ l. token (string k) ∷ colon ∷ l) a.lexed ∙ sym (behind_key k s))
alike_behind (string k) r s h a = behind_text k r ∙ (ap (λ l. token (string k) ∷ l) a.lexed ∙ sym (behind_text k s))
alike_behind (number n) r s h a =
    lex-number n r h (a.left refl) ∙ (ap (λ l. token (number n) ∷ l) a.lexed ∙ sym (lex-number n s h (a.right refl)))
alike_behind (boolean true) r s h a = behind_true r (a.left refl) ∙ (ap (λ l. token (boolean true) ∷ l) a.lexed ∙ sym (behind_true s (a.right refl)))
alike_behind (boolean false) r s h a = behind_false r (a.left refl) ∙ (ap (λ l. token (boolean false) ∷ l) a.lexed ∙ sym (behind_false s (a.right refl)))
alike_behind null r s h a = behind_null r (a.left refl) ∙ (ap (λ l. token null ∷ l) a.lexed ∙ sym (behind_null s (a.right refl)))
alike_behind bad r s h a = absurd h

alike_comma : (b : Bool) (r s : List ℕ) → lex between r ≡ lex between s → lex between (cond b (44 ∷ []) [] ++ r) ≡ lex between (cond b (44 ∷ []) [] ++ s)
unfolding lex
alike_comma true r s e = ap (λ l. comma ∷ l) e
alike_comma false r s e = e

-- ---- behind all tokens

-- after a value stands a comma, a closing bracket or the end
ended : (ts : List Token) (r : List ℕ) → ends_word r ≡ true → ends_word (print_from true ts ++ r) ≡ true
unfolding print_from
ended [] r e = e
ended (begin_object ∷ ts) r e = refl
ended (end_object ∷ ts) r e = refl
ended (begin_array ∷ ts) r e = refl
ended (end_array ∷ ts) r e = refl
ended (key s ∷ ts) r e = refl
ended (string s ∷ ts) r e = refl
ended (number s ∷ ts) r e = refl
ended (boolean b ∷ ts) r e = refl
ended (null ∷ ts) r e = refl
ended (bad ∷ ts) r e = refl

grouped : (a b c d : List ℕ) → (a ++ (b ++ c)) ++ d ≡ a ++ (b ++ (c ++ d))
grouped a b c d = append_assoc a (b ++ c) d ∙ ap (λ l. a ++ l) (append_assoc b c d)

alike_texts : (c : Bool) (ts : List Token) (r s : List ℕ) → AreAlike true r s → ArePrintable ts
    → lex between (print_from c ts ++ r) ≡ lex between (print_from c ts ++ s)
unfolding print_from ArePrintable
alike_texts c [] r s a h = a.lexed
alike_texts c (t ∷ ts) r s a h =
    let rest = print_from (ends t) ts in
    let further : AreAlike (ends t) (rest ++ r) (rest ++ s) = record {
      lexed = alike_texts (ends t) ts r s a h.1;
      left = λ e. ap (λ b. ends_word (print_from b ts ++ r)) e ∙ ended ts r (a.left refl);
      right = λ e. ap (λ b. ends_word (print_from b ts ++ s)) e ∙ ended ts s (a.right refl);
    } in
    ap (lex between) (grouped (separator c t) (token_text t) rest r)
    ∙ (alike_comma (c && begins t) (token_text t ++ (rest ++ r)) (token_text t ++ (rest ++ s)) (alike_behind t (rest ++ r) (rest ++ s) h.0 further)
    ∙ ap (lex between) (sym (grouped (separator c t) (token_text t) rest s)))

line_end : AreAlike true (10 ∷ []) []
unfolding lex
line_end = record { lexed = refl; left = λ e. refl; right = λ e. refl }

tokens_line : (ts : List Token) → ArePrintable ts → tokens (print ts ++ 10 ∷ []) ≡ tokens (print ts)
tokens_line ts h = ap (punctuate fresh) (alike_texts false ts (10 ∷ []) [] line_end h ∙ ap (lex between) (append-nil (print ts)))

-- a value whose numbers are in print reads back from its line as from its text
pub reads_line : (d : Data) → tree.HasNumbers (outline d) → read (compact_text d ++ 10 ∷ []) ≡ read (compact_text d)
reads_line d numbers =
    let same : tokens (compact_text d ++ 10 ∷ []) ≡ tokens (compact_text d) =
    subst (λ (text : List ℕ). tokens (text ++ 10 ∷ []) ≡ tokens text) (print-outline d)
    (tokens_line (tree.json_tokens (outline d)) (ArePrintable-json_tokens (outline d) numbers)) in
    ap (λ (ts : List Token). option_and_then of_json (option_and_then (λ p. json.if_last p.0 p.1) (json.value max_depth ts))) same
