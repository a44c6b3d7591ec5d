-- The first tokens of a text.
use Rattle.std.specs.Prelude.{◌≡◌, ℕ, List, Bool, true, false, length, map, take}
use Rattle.std.specs.List.{list_all}
use Rattle.fs_litmus_tokens.specs.Tokens.{Tok, Strange, Lined, AreTokens, view, without_lines}
use Rattle.fs_litmus_tokens.specs.declared.few.Few.{Few}
use Rattle.fs_litmus_tokens.specs.declared.token.Token.{Token}

-- a word or a mark
abbrev pub is_plain : Tok → Bool
is_plain Strange = false
is_plain _ = true

-- each token is a word or a mark
abbrev pub are_plain : List Tok → Bool
are_plain ts = list_all is_plain ts

-- these places hold the first 20 of these tokens
pub record AreFirst (tokens : List Token) (n : ℕ) (ts : List Lined) : Type 0 where
  pub count : length ts ≡ n
  pub room : length tokens ≡ 20
  pub kept : map view (take n tokens) ≡ take 20 ts

pub record IsFew (text : List ℕ) (few : Few) : Type 0 where
  pub all : List Lined
  pub are : AreTokens text 0 all few.closed
  pub first : AreFirst few.tokens few.len all
  pub plain : few.plain ≡ are_plain (without_lines all)
  -- a text has no other tokens
  pub only : (ts : List Lined) (closed : Bool) → AreTokens text 0 ts closed → (all ≡ ts) × (few.closed ≡ closed)
