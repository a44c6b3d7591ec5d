-- The header row P0 | P1 | .. ; (herd7's format of litmus tests).
-- L ts a rest says that the tokens ts are an L that means a, and then rest.
use Rattle.std.specs.Prelude.{◌≡◌, ℕ, ◌+◌, List, ◌∷◌, Bool, true, false, bytes_eq, decimal}
use Rattle.fs_litmus_tokens.specs.Tokens.{Tok, Lined, Word, Sign}
use Rattle.fs_litmus_tokens.specs.declared.word.Class.{Class}
use Rattle.fs_litmus_tokens.specs.declared.token.Mark.TheVariants.{Semicolon, Bar}
use Rattle.fs_litmus_tokens.specs.Sections.{Move, Go, Finish, Bad}
use Rattle.fs_litmus_syntax.specs.declared.header.Position.{Position}
use Rattle.fs_litmus_syntax.specs.declared.header.Position.TheVariants.{BeforeWord, AfterWord}
use Rattle.fs_litmus_syntax.specs.declared.header.Transition as transitions
use Rattle.fs_litmus_syntax.specs.declared.header.Transition.TheVariants as transition

-- the word of column k: P and its number
abbrev pub column_word : ℕ → List ℕ
column_word k = 80 ∷ decimal k

-- from column k on a header, after which there are n columns
pub data IsColumns : ℕ → List Lined → ℕ → List Lined → Type 0 where
  last : {k i j : ℕ} {c : Class} {w : List ℕ} {rest : List Lined} → w ≡ column_word k → IsColumns k ((Word c w, i) ∷ (Sign Semicolon, j) ∷ rest) (k + 1) rest
  more : {k n i j : ℕ} {c : Class} {w : List ℕ} {ts rest : List Lined} → w ≡ column_word k → IsColumns (k + 1) ts n rest → IsColumns k ((Word c w, i) ∷ (Sign Bar, j) ∷ ts) n rest

-- a header of n columns
abbrev pub IsHeader : List Lined → ℕ → List Lined → Type 0
IsHeader = IsColumns 0

-- ---- what the reader does

abbrev pub is_column : ℕ → List ℕ → Bool
is_column k w = bytes_eq w (column_word k)

abbrev pub word_next : Bool → ℕ → Move Position ℕ
word_next true k = Go (AfterWord k)
word_next false k = Bad

abbrev pub next_in : Position → Tok → Move Position ℕ
next_in (BeforeWord k) (Word c w) = word_next (is_column k w) k
next_in (AfterWord k) (Sign Semicolon) = Finish (k + 1)
next_in (AfterWord k) (Sign Bar) = Go (BeforeWord (k + 1))
next_in _ _ = Bad

abbrev pub next : Position → Lined → Move Position ℕ
next p t = next_in p t.0

-- ---- what the reader's values stand for

abbrev pub column_of : Position → ℕ
column_of (BeforeWord k) = k
column_of (AfterWord k) = k

abbrev pub move_of : transitions.Transition → Move Position ℕ
move_of (transition.Go p) = Go p
move_of (transition.Finish n) = Finish n
move_of transition.Bad = Bad

abbrev pub column_after : transitions.Transition → ℕ
column_after (transition.Go p) = column_of p
column_after (transition.Finish n) = n
column_after transition.Bad = 0
