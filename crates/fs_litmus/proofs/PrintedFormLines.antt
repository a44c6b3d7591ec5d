-- Tokens with their lines, beside the tokens alone.
use Rattle.std.proofs.Common.{◌≡◌, ℕ, List, [], ◌∷◌, ◌++◌, refl, subst, append_assoc}
use Rattle.fs_litmus_tokens.specs.Tokens.{Tok, Lined, without_lines}

-- the first are the second, each in some line
pub data Are : List Lined → List Tok → Type 0 where
  none : Are [] []
  next : {t : Tok} {k : ℕ} {ts : List Lined} {toks : List Tok} → Are ts toks → Are ((t, k) ∷ ts) (t ∷ toks)

are_all : (ts : List Lined) → Are ts (without_lines ts)
are_all [] = none
are_all ((t, k) ∷ ts) = next (are_all ts)

pub lined_are : (ts : List Lined) (toks : List Tok) → without_lines ts ≡ toks → Are ts toks
lined_are ts toks e = subst (Are ts) e (are_all ts)

pub regrouped : {ts : List Lined} (a b c : List Tok) → Are ts ((a ++ b) ++ c) → Are ts (a ++ (b ++ c))
regrouped {ts = ts} a b c h = subst (Are ts) (append_assoc a b c) h

-- the tokens are this one in some line, and then some
pub record First (ts : List Lined) (t : Tok) (toks : List Tok) : Type 0 where
  pub line : ℕ
  pub rest : List Lined
  pub split : ts ≡ (t, line) ∷ rest
  pub are : Are rest toks

pub first : {ts : List Lined} {t : Tok} {toks : List Tok} → Are ts (t ∷ toks) → First ts t toks
first (next are) = record { line = _; rest = _; split = refl; are = are }

-- the tokens are an L that means this, and then some
pub record Begins {A : Type 0} (L : List Lined → A → List Lined → Type 0) (ts : List Lined) (a : A) (toks : List Tok) : Type 0 where
  pub rest : List Lined
  pub is : L ts a rest
  pub are : Are rest toks
