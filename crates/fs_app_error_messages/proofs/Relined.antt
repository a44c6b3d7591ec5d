-- A file with each token in a line of its own has the same tokens, in these lines.
use Rattle.std.proofs.Common.{◌≡◌, ℕ, suc, ◌+◌, List, [], ◌∷◌, ◌++◌, Bool, true, false, cond, ◌==◌, ◌&&◌, Option, Some, None, refl, sym, ap, subst, append_assoc, take, arith, codes, eqb-true}
use Rattle.std.specs.List.{prefix_len}
use Rattle.fs_litmus_tokens.specs.Bytes.{is_letter, is_blank, begins, tail, comment_end}
use Rattle.fs_litmus_tokens.specs.Words.{class_of}
use Rattle.fs_litmus_tokens.specs.Tokens.{Tok, Word, Sign, Strange, Front, Skip, Take, Unclosed, after_comment, single, mark_of, piece, Lined, AreTokens, none, skip, token, unclosed}
use Rattle.fs_litmus_tokens.specs.declared.token.Mark.{Mark}
use Rattle.fs_litmus_tokens.specs.declared.token.Mark.TheVariants as mark
use Rattle.fs_instr.proofs.PrintedWords.{all_letters, is_word, word_prints}
use Rattle.fs_litmus.specs.Title.{IsBody, here, later}
use Rattle.fs_litmus.specs.Reads.{HasTokens}
use Rattle.fs_app_error_messages.specs.Apart.{mark_text, token_text, in_lines, ending, apart, renumbered}

-- a token as it comes from a text: a word is of letters, and has its class
abbrev pub IsRead : Tok → Type 0
IsRead (Word c w) = (c ≡ class_of w) × (is_word w ≡ true)
IsRead _ = Unit {0}

abbrev pub AreRead : List Lined → Type 0
AreRead [] = Unit {0}
AreRead (t ∷ ts) = IsRead t.0 × AreRead ts

-- ---- what comes from a text

abbrev OfFront : Front → Type 0
OfFront (Take t rest) = IsRead t
OfFront _ = Unit {0}

either : (b : Bool) (x y : Front) → (b ≡ true → OfFront x) → (b ≡ false → OfFront y) → OfFront (cond b x y)
either true x y p q = p refl
either false x y p q = q refl

of_comment : (o : Option (List ℕ × ℕ)) → OfFront (after_comment o)
of_comment None = tt
of_comment (Some x) = tt

of_single : (o : Option Mark) (bs : List ℕ) → OfFront (single o bs)
of_single None bs = tt
of_single (Some m) bs = tt

letters_step : (b : ℕ) (bs : List ℕ) (r : Bool) → is_letter b ≡ r → all_letters (take (prefix_len is_letter bs) bs) ≡ true → all_letters (take (cond r (1 + prefix_len is_letter bs) 0) (b ∷ bs)) ≡ true
letters_step b bs true e h = let same : 1 + prefix_len is_letter bs ≡ suc (prefix_len is_letter bs) = omega arith in rw (same, e) h
letters_step b bs false e h = refl

letters_taken : (bs : List ℕ) → all_letters (take (prefix_len is_letter bs) bs) ≡ true
letters_taken [] = refl
letters_taken (b ∷ bs) = letters_step b bs (is_letter b) refl (letters_taken bs)

word_step : (b : ℕ) (bs : List ℕ) (r : Bool) → is_letter b ≡ r → r ≡ true → all_letters (take (cond r (1 + prefix_len is_letter bs) 0) (b ∷ bs)) ≡ true → is_word (take (cond r (1 + prefix_len is_letter bs) 0) (b ∷ bs)) ≡ true
word_step b bs true e f h = let same : 1 + prefix_len is_letter bs ≡ suc (prefix_len is_letter bs) = omega arith in rw same (rw same at h)
word_step b bs false e f h = absurd (cc)

of_piece : (b : ℕ) (bs : List ℕ) (line : ℕ) → OfFront (piece b bs line)
of_piece b bs line =
    either (b == 10) _ _ (λ e. tt) (λ e.
    either (is_blank b) _ _ (λ e. tt) (λ e.
    either (is_letter b) _ _ (λ f. (refl, word_step b bs (is_letter b) refl f (letters_taken (b ∷ bs)))) (λ e.
    either (b == 47 && begins 92 bs) _ _ (λ e. tt) (λ e.
    either (b == 92 && begins 47 bs) _ _ (λ e. tt) (λ e.
    either (b == 40 && begins 42 bs) _ _ (λ e. of_comment (comment_end (tail bs) line)) (λ e.
    of_single (mark_of b) bs))))))

pub are_read : {bs : List ℕ} {line : ℕ} {ts : List Lined} {closed : Bool} → AreTokens bs line ts closed → AreRead ts
are_read none = tt
are_read (skip e h) = are_read h
are_read (token {b = b} {line = line} {bs = bs} e h) = (subst OfFront e (of_piece b bs line), are_read h)
are_read (unclosed e) = tt

-- ---- what stands apart

mark_prints : (m : Mark) (rest : List ℕ) (line : ℕ) (ts : List Lined) (closed : Bool) → AreTokens (10 ∷ rest) line ts closed → AreTokens (mark_text m ++ 10 ∷ rest) line ((Sign m, line) ∷ ts) closed
mark_prints mark.OpenBrace rest line ts closed h = token refl h
mark_prints mark.CloseBrace rest line ts closed h = token refl h
mark_prints mark.Semicolon rest line ts closed h = token refl h
mark_prints mark.Bar rest line ts closed h = token refl h
mark_prints mark.Comma rest line ts closed h = token refl h
mark_prints mark.Colon rest line ts closed h = token refl h
mark_prints mark.Equals rest line ts closed h = token refl h
mark_prints mark.OpenParen rest line ts closed h = token refl h
mark_prints mark.CloseParen rest line ts closed h = token refl h
mark_prints mark.OpenBracket rest line ts closed h = token refl h
mark_prints mark.CloseBracket rest line ts closed h = token refl h
mark_prints mark.Tilde rest line ts closed h = token refl h
mark_prints mark.Minus rest line ts closed h = token refl h
mark_prints mark.Star rest line ts closed h = token refl h
mark_prints mark.Ampersand rest line ts closed h = token refl h
mark_prints mark.Less rest line ts closed h = token refl h
mark_prints mark.Greater rest line ts closed h = token refl h
mark_prints mark.Bang rest line ts closed h = token refl h
mark_prints mark.And rest line ts closed h = token refl h
mark_prints mark.Or rest line ts closed h = token refl h

token_prints : (t : Tok) (rest : List ℕ) (line : ℕ) (ts : List Lined) (closed : Bool) → IsRead t → AreTokens (10 ∷ rest) line ts closed → AreTokens (token_text t ++ 10 ∷ rest) line ((t, line) ∷ ts) closed
token_prints (Word c w) rest line ts closed r h =
    subst (λ k. AreTokens (w ++ 10 ∷ rest) line ((Word k w, line) ∷ ts) closed) (sym r.0) (word_prints w (10 ∷ rest) line ts closed r.1 refl h)
token_prints (Sign m) rest line ts closed r h = mark_prints m rest line ts closed h
token_prints Strange rest line ts closed r h = token refl h

abbrev lines_of : List Lined → Bool → List ℕ
lines_of ts closed = in_lines ts ++ ending closed

begins_line : (ts : List Lined) (closed : Bool) → (rest : List ℕ) × (lines_of ts closed ≡ 10 ∷ rest)
begins_line [] true = (codes " ", refl)
begins_line [] false = (codes "(*", refl)
begins_line (t ∷ ts) closed = (token_text t.0 ++ in_lines ts ++ ending closed, refl)

below_token : (t : Tok) (ts : List Lined) (line : ℕ) (us : List Lined) (closed : Bool) → IsRead t → AreTokens (lines_of ts closed) line us closed → AreTokens (token_text t ++ in_lines ts ++ ending closed) line ((t, line) ∷ us) closed
below_token t ts line us closed r h =
    let b = begins_line ts closed in
    let one = token_prints t b.0 line us closed r (subst (λ l. AreTokens l line us closed) b.1 h) in
    let two = subst (λ l. AreTokens (token_text t ++ l) line ((t, line) ∷ us) closed) (sym b.1) one in
    subst (λ l. AreTokens l line ((t, line) ∷ us) closed) (sym (append_assoc (token_text t) (in_lines ts) (ending closed))) two

in_lines_tokens : (ts : List Lined) (line : ℕ) (closed : Bool) → AreRead ts → AreTokens (lines_of ts closed) line (renumbered (line + 1) ts) closed
in_lines_tokens [] line true r = skip refl (skip refl none)
in_lines_tokens [] line false r = skip refl (unclosed refl)
in_lines_tokens (t ∷ ts) line closed r =
    skip refl (below_token t.0 ts (line + 1) _ closed r.0 (in_lines_tokens ts (line + 1) closed r.1))

-- ---- the file

abbrev braced_text : List Lined → Bool → List ℕ
braced_text ts closed = codes "{" ++ in_lines ts ++ ending closed

-- a file whose first token is {
braced : (l : ℕ) (ts : List Lined) (closed : Bool) → AreRead ts → HasTokens (apart ((Sign mark.OpenBrace, l) ∷ ts) closed) (renumbered 2 ((Sign mark.OpenBrace, l) ∷ ts)) closed
braced l ts closed r = record {
  body = braced_text ts closed;
  line = 2;
  has_body = record { doc = braced_text ts closed; after_title = refl; is_body = here refl };
  are_tokens = below_token (Sign mark.OpenBrace) ts 2 _ closed tt (in_lines_tokens ts 2 closed r);
}

first_brace : {bs : List ℕ} {line : ℕ} {ts : List Lined} {closed : Bool} → begins 123 bs ≡ true → AreTokens bs line ts closed → (l : ℕ) × (us : List Lined) × (ts ≡ (Sign mark.OpenBrace, l) ∷ us)
first_brace e none = absurd (cc)
first_brace e (skip {b = b} {line = line} {next = next} {bs = cs} {rest = rest} f h) =
    let g = subst (λ x. piece x cs line ≡ Skip rest next) (eqb-true b 123 e) f in absurd (cc)
first_brace e (token {b = b} {line = line} {bs = cs} {rest = rest} {t = t} {ts = us} f h) =
    let g = subst (λ x. piece x cs line ≡ Take t rest) (eqb-true b 123 e) f in
    let same : t ≡ Sign mark.OpenBrace = cc in
    (line, us, ap (λ x. (x, line) ∷ us) same)
first_brace e (unclosed {b = b} {line = line} {bs = cs} f) =
    let g = subst (λ x. piece x cs line ≡ Unclosed) (eqb-true b 123 e) f in absurd (cc)

begins_brace : {bs body : List ℕ} {line at : ℕ} → IsBody bs line body at → begins 123 body ≡ true
begins_brace (here e) = e
begins_brace (later e f h) = begins_brace h

-- the tokens of a file stand apart in the lines from 2 on
pub relined : (bytes : List ℕ) (ts : List Lined) (closed : Bool) → HasTokens bytes ts closed → HasTokens (apart ts closed) (renumbered 2 ts) closed
relined bytes ts closed h =
    let first = first_brace (begins_brace h.has_body.is_body) h.are_tokens in
    let read = subst AreRead first.2 (are_read h.are_tokens) in
    subst (λ l. HasTokens (apart l closed) (renumbered 2 l) closed) (sym first.2) (braced first.0 first.1 closed read.1)
