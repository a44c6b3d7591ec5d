-- What the tokens to come must be, in each state of the reader of the header.
use Rattle.std.proofs.Common.{◌≡◌, ℕ, ◌+◌, List, [], ◌∷◌, Bool, true, false, refl, rules}
use Rattle.std.proofs.lemmas.Slice.Eq.{bytes_eq-Decides}
use Rattle.fs_litmus_tokens.specs.declared.word.Class.{Class}
use Rattle.fs_litmus_tokens.specs.declared.word.Class.TheVariants as class
use Rattle.fs_litmus_tokens.specs.declared.token.Mark.TheVariants.{Semicolon, Bar}
use Rattle.fs_litmus_tokens.specs.Tokens.{Tok, Lined, Word, Sign}
use Rattle.fs_litmus_tokens.specs.Sections.{scan, IsAlive, Scanned}
use Rattle.fs_litmus_tokens.proofs.Scans.{Follows, scanned}
use Rattle.fs_litmus_syntax.specs.declared.header.Position.{Position}
use Rattle.fs_litmus_syntax.specs.declared.header.Position.TheVariants.{BeforeWord, AfterWord}
use Rattle.fs_litmus_syntax.specs.Header.{column_word, IsColumns, last, more, IsHeader, is_column, word_next, next_in, next}

-- after the word of column k
data AfterColumn : ℕ → List Lined → ℕ → List Lined → Type 0 where
  ends : {k j : ℕ} {rest : List Lined} → AfterColumn k ((Sign Semicolon, j) ∷ rest) (k + 1) rest
  goes : {k n j : ℕ} {ts rest : List Lined} → IsColumns (k + 1) ts n rest → AfterColumn k ((Sign Bar, j) ∷ ts) n rest

abbrev Left : Position → List Lined → ℕ → List Lined → Type 0
Left (BeforeWord k) ts n m = IsColumns k ts n m
Left (AfterWord k) ts n m = AfterColumn k ts n m

word_to : {k n i : ℕ} {c : Class} {w : List ℕ} {ts m : List Lined} → IsColumns k ((Word c w, i) ∷ ts) n m → (w ≡ column_word k) × AfterColumn k ts n m
word_to (last p) = (p, ends)
word_to (more p h) = (p, goes h)

word_from : {k n i : ℕ} {c : Class} {w : List ℕ} {ts m : List Lined} → w ≡ column_word k → AfterColumn k ts n m → IsColumns k ((Word c w, i) ∷ ts) n m
word_from p ends = last p
word_from p (goes h) = more p h

same_word : (k : ℕ) (w : List ℕ) → is_column k w ≡ true → w ≡ column_word k
same_word k w e = search (rules, bytes_eq-Decides)

word_same : (k : ℕ) (w : List ℕ) → w ≡ column_word k → is_column k w ≡ true
word_same k w e = search (rules, bytes_eq-Decides)

follows_word : (k i : ℕ) (c : Class) (w : List ℕ) (r : Bool) → is_column k w ≡ r → Follows Left (λ us. IsColumns k ((Word c w, i) ∷ us)) (word_next r k)
follows_word k i c w true e = (λ ts n m h. (word_to h).1, λ ts n m h. word_from (same_word k w e) h)
follows_word k i c w false e = λ ts n m h. let p = word_same k w (word_to h).0 in cc

abbrev IsMark : Tok → Type 0
IsMark (Sign Semicolon) = Unit {0}
IsMark (Sign Bar) = Unit {0}
IsMark _ = ⊥

abbrev IsWord : Tok → Type 0
IsWord (Word c w) = Unit {0}
IsWord _ = ⊥

mark_first : {k n i : ℕ} {t : Tok} {ts m : List Lined} → AfterColumn k ((t, i) ∷ ts) n m → IsMark t
mark_first ends = tt
mark_first (goes h) = tt

word_first : {k n i : ℕ} {t : Tok} {ts m : List Lined} → IsColumns k ((t, i) ∷ ts) n m → IsWord t
word_first (last p) = tt
word_first (more p h) = tt

semicolon_to : {k n i : ℕ} {ts m : List Lined} → AfterColumn k ((Sign Semicolon, i) ∷ ts) n m → (n ≡ k + 1) × (m ≡ ts)
semicolon_to ends = (refl, refl)

bar_to : {k n i : ℕ} {ts m : List Lined} → AfterColumn k ((Sign Bar, i) ∷ ts) n m → IsColumns (k + 1) ts n m
bar_to (goes h) = h

follows_before : (k : ℕ) (t : Tok) (i : ℕ) → Follows Left (λ us. IsColumns k ((t, i) ∷ us)) (next_in (BeforeWord k) t)
follows_before k (Word c w) i = follows_word k i c w _ refl
follows_before k _ i = λ ts n m h. word_first h

follows_after : (k : ℕ) (t : Tok) (i : ℕ) → Follows Left (λ us. AfterColumn k ((t, i) ∷ us)) (next_in (AfterWord k) t)
follows_after k (Sign Semicolon) i = (λ ts n m h. semicolon_to h, λ ts. ends)
follows_after k (Sign Bar) i = (λ ts n m h. bar_to h, λ ts n m h. goes h)
follows_after k _ i = λ ts n m h. mark_first h

follows : (p : Position) (t : Lined) → Follows Left (λ us. Left p (t ∷ us)) (next p t)
follows (BeforeWord k) (t, i) = follows_before k t i
follows (AfterWord k) (t, i) = follows_after k t i

alive : (p : Position) → IsAlive (Left p) []
alive (BeforeWord k) = ((Word class.Name (column_word k), 0) ∷ (Sign Semicolon, 0) ∷ [], k + 1, λ q. last refl)
alive (AfterWord k) = ((Sign Semicolon, 0) ∷ [], k + 1, λ q. ends)

no_end : (p : Position) (n : ℕ) (m : List Lined) → Left p [] n m → ⊥
no_end (BeforeWord k) n m h = elim h [ ]
no_end (AfterWord k) n m h = elim h [ ]

pub scanned_header : (ts : List Lined) → Scanned IsHeader ts (scan next (BeforeWord 0) ts)
scanned_header ts = scanned next Left follows alive no_end (BeforeWord 0) ts
