-- Texts that have the same tokens wherever they stand.
use Rattle.std.proofs.Common.{◌≡◌, ℕ, zero, suc, ◌+◌, ◌<◌, List, [], ◌∷◌, ◌++◌, Bool, true, false, ◌&&◌, refl, sym, ap, subst, append_assoc, append-nil, arith, lit<}
use Rattle.std.proofs.lemmas.Bool.Decides.{nat_tests}
use Rattle.std.proofs.lemmas.Bool.{and_parts}
use Rattle.std.proofs.lemmas.Grind.{common_steps}
use Rattle.std.proofs.lemmas.Str.{IsAscii-append}
use Rattle.std.specs.Prelude.{nat_lt, codes}
use Rattle.std.specs.Str.{IsAscii}
use Rattle.fs_litmus_tokens.specs.Bytes.{is_letter, begins}
use Rattle.fs_litmus_tokens.specs.Tokens.{Tok, Sign, Lined, AreTokens, skip, token, word, without_lines, piece, Skip, Take}
use Rattle.fs_litmus_tokens.specs.declared.token.Mark.{Mark}
use Rattle.fs_litmus_tokens.specs.declared.token.Mark.TheVariants as mark
use Rattle.fs_instr.specs.PrintedTokens.{IsApart}
use Rattle.fs_instr.proofs.PrintedWords.{all_letters, is_word, word_prints}

-- from whatever line on, the bytes have these tokens
abbrev pub HasToks : List ℕ → List Tok → Type 0
HasToks bytes toks = (line : ℕ) → (ts : List Lined) × AreTokens bytes line ts true × (without_lines ts ≡ toks)

-- ASCII text that has these tokens wherever it stands
pub record Prints (text : List ℕ) (toks : List Tok) : Type 0 where
  pub ascii : IsAscii text
  pub tokens : (rest : List ℕ) (more : List Tok) → HasToks rest more → HasToks (text ++ rest) (toks ++ more)

-- ASCII text that has these tokens wherever it stands before something that isn't a letter
pub record Opens (text : List ℕ) (toks : List Tok) : Type 0 where
  pub ascii : IsAscii text
  pub tokens : (rest : List ℕ) (more : List Tok) → IsApart rest → HasToks rest more → HasToks (text ++ rest) (toks ++ more)

-- whatever follows it, the text begins with something that isn't a letter, where it isn't empty
abbrev pub BeginsApart : List ℕ → Type 0
BeginsApart text = (rest : List ℕ) → IsApart (text ++ rest)

-- ---- ASCII

pub nil_ascii : IsAscii []
nil_ascii i = lit< tt

pub cons_ascii : (b : ℕ) (bs : List ℕ) → b < 128 → IsAscii bs → IsAscii (b ∷ bs)
cons_ascii b bs h k zero = h
cons_ascii b bs h k (suc i) = k i

abbrev pub all_ascii : List ℕ → Bool
all_ascii [] = true
all_ascii (b ∷ bs) = nat_lt b 128 && all_ascii bs

below_ascii : (b : ℕ) → nat_lt b 128 ≡ true → b < 128
below_ascii b e = grind (arith, nat_tests, common_steps)

pub tested_ascii : (bs : List ℕ) → all_ascii bs ≡ true → IsAscii bs
tested_ascii [] e = nil_ascii
tested_ascii (b ∷ bs) e =
    let both = and_parts _ _ e in
    cons_ascii b bs (below_ascii b both.0) (tested_ascii bs both.1)

letter_ascii : (b : ℕ) → is_letter b ≡ true → b < 128
letter_ascii b e = grind (arith, nat_tests, common_steps)

pub letters_ascii : (w : List ℕ) → all_letters w ≡ true → IsAscii w
letters_ascii [] e = nil_ascii
letters_ascii (b ∷ bs) e =
    let both = and_parts _ _ e in
    cons_ascii b bs (letter_ascii b both.0) (letters_ascii bs both.1)

pub word_ascii : (w : List ℕ) → is_word w ≡ true → IsAscii w
word_ascii [] e = absurd (cc)
word_ascii (b ∷ bs) e = letters_ascii (b ∷ bs) e

-- ---- one after the other

regroup : (a b rest : List ℕ) (x y more : List Tok) → HasToks (a ++ (b ++ rest)) (x ++ (y ++ more)) → HasToks ((a ++ b) ++ rest) ((x ++ y) ++ more)
regroup a b rest x y more h = subst (λ l. HasToks l ((x ++ y) ++ more)) (sym (append_assoc a b rest)) (subst (HasToks (a ++ (b ++ rest))) (sym (append_assoc x y more)) h)

pub nothing : Prints [] []
nothing = record { ascii = nil_ascii; tokens = λ rest more h. h }

pub nothing_open : Opens [] []
nothing_open = record { ascii = nil_ascii; tokens = λ rest more apart h. h }

pub opened : {a : List ℕ} {x : List Tok} → Prints a x → Opens a x
opened p = record { ascii = p.ascii; tokens = λ rest more apart h. p.tokens rest more h }

module _ {a b : List ℕ} {x y : List Tok} where
  pub then : Prints a x → Prints b y → Prints (a ++ b) (x ++ y)
  then p q = record { ascii = IsAscii-append a b p.ascii q.ascii; tokens = λ rest more h. regroup a b rest x y more (p.tokens (b ++ rest) (y ++ more) (q.tokens rest more h)) }

  pub then_open : Prints a x → Opens b y → Opens (a ++ b) (x ++ y)
  then_open p q = record { ascii = IsAscii-append a b p.ascii q.ascii; tokens = λ rest more apart h. regroup a b rest x y more (p.tokens (b ++ rest) (y ++ more) (q.tokens rest more apart h)) }

  pub closed_by : Opens a x → BeginsApart b → Prints b y → Prints (a ++ b) (x ++ y)
  closed_by p between q = record { ascii = IsAscii-append a b p.ascii q.ascii; tokens = λ rest more h. regroup a b rest x y more (p.tokens (b ++ rest) (y ++ more) (between rest) (q.tokens rest more h)) }

  pub parted_from : Opens a x → BeginsApart b → Opens b y → Opens (a ++ b) (x ++ y)
  parted_from p between q = record { ascii = IsAscii-append a b p.ascii q.ascii; tokens = λ rest more apart h. regroup a b rest x y more (p.tokens (b ++ rest) (y ++ more) (between rest) (q.tokens rest more apart h)) }

-- ---- words and marks

pub word_opens : (w : List ℕ) → is_word w ≡ true → Opens w (word w ∷ [])
word_opens w e = record {
  ascii = word_ascii w e;
  tokens = λ rest more apart h line. let t = h line in ((word w, line) ∷ t.0, word_prints w rest line t.0 true e apart t.1, ap (λ l. word w ∷ l) t.2);
}

-- a text of known bytes
fixed : (text : List ℕ) (toks : List Tok) → all_ascii text ≡ true → ((rest : List ℕ) (more : List Tok) → HasToks rest more → HasToks (text ++ rest) (toks ++ more)) → Prints text toks
fixed text toks e h = record { ascii = tested_ascii text e; tokens = h }

-- bytes that are skipped in their line, and bytes that are a mark
between : (b : ℕ) → nat_lt b 128 ≡ true → ((bs : List ℕ) (line : ℕ) → piece b bs line ≡ Skip bs line) → Prints (b ∷ []) []
between b e is = fixed (b ∷ []) [] (rw e refl) (λ rest more h line. let t = h line in (t.0, skip (is rest line) t.1, t.2))

sign : (b : ℕ) (m : Mark) → nat_lt b 128 ≡ true → ((bs : List ℕ) (line : ℕ) → piece b bs line ≡ Take (Sign m) bs) → Prints (b ∷ []) (Sign m ∷ [])
sign b m e is = fixed (b ∷ []) (Sign m ∷ []) (rw e refl) (λ rest more h line. let t = h line in ((Sign m, line) ∷ t.0, token (is rest line) t.1, ap (λ l. Sign m ∷ l) t.2))

pub line_end : Prints (10 ∷ []) []
line_end = fixed (10 ∷ []) [] refl (λ rest more h line. let t = h (line + 1) in (t.0, skip refl t.1, t.2))

pub blank : Prints (codes " ") []
blank = between 32 refl (λ bs line. refl)

pub open_brace : Prints (codes "{") (Sign mark.OpenBrace ∷ [])
open_brace = sign 123 mark.OpenBrace refl (λ bs line. refl)

pub close_brace : Prints (codes "}") (Sign mark.CloseBrace ∷ [])
close_brace = sign 125 mark.CloseBrace refl (λ bs line. refl)

pub semicolon : Prints (codes ";") (Sign mark.Semicolon ∷ [])
semicolon = sign 59 mark.Semicolon refl (λ bs line. refl)

pub bar : Prints (codes "|") (Sign mark.Bar ∷ [])
bar = sign 124 mark.Bar refl (λ bs line. refl)

pub colon : Prints (codes ":") (Sign mark.Colon ∷ [])
colon = sign 58 mark.Colon refl (λ bs line. refl)

pub equals : Prints (codes "=") (Sign mark.Equals ∷ [])
equals = sign 61 mark.Equals refl (λ bs line. refl)

pub tilde : Prints (codes "~") (Sign mark.Tilde ∷ [])
tilde = sign 126 mark.Tilde refl (λ bs line. refl)

pub close_paren : Prints (codes ")") (Sign mark.CloseParen ∷ [])
close_paren = sign 41 mark.CloseParen refl (λ bs line. refl)

pub and_sign : Prints (codes "/\\") (Sign mark.And ∷ [])
and_sign = fixed (codes "/\\") (Sign mark.And ∷ []) refl (λ rest more h line. let t = h line in ((Sign mark.And, line) ∷ t.0, token refl t.1, ap (λ l. Sign mark.And ∷ l) t.2))

pub or_sign : Prints (codes "\\/") (Sign mark.Or ∷ [])
or_sign = fixed (codes "\\/") (Sign mark.Or ∷ []) refl (λ rest more h line. let t = h line in ((Sign mark.Or, line) ∷ t.0, token refl t.1, ap (λ l. Sign mark.Or ∷ l) t.2))

-- before something other than *, that would begin a comment
pub open_paren_tokens : (rest : List ℕ) (more : List Tok) → begins 42 rest ≡ false → HasToks rest more → HasToks (40 ∷ rest) (Sign mark.OpenParen ∷ more)
open_paren_tokens rest more e h line = let t = h line in ((Sign mark.OpenParen, line) ∷ t.0, token (rw e refl) t.1, ap (λ l. Sign mark.OpenParen ∷ l) t.2)

-- ---- lines

pub ended_line : {a : List ℕ} {x : List Tok} → Opens a x → Prints (a ++ 10 ∷ []) x
ended_line {a} {x} p = subst (Prints (a ++ 10 ∷ [])) (append-nil x) (closed_by p (λ rest. refl) line_end)
