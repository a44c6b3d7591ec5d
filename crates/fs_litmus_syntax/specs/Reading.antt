-- What a reader of tokens answers.
use Rattle.std.specs.Prelude.{◌≡◌, List, ◌++◌}
use Rattle.fs_litmus_tokens.specs.declared.token.Token.{Token}
use Rattle.fs_litmus_tokens.specs.declared.values.Stop.{Stop}
use Rattle.fs_litmus_tokens.specs.declared.values.Stop.TheVariants.{Memory, At}
use Rattle.fs_litmus_tokens.specs.Tokens.{Lined, views}
use Rattle.fs_litmus_tokens.specs.Sections.{Stops}

-- the tokens that are lent back are the last of those that were lent
pub record IsEnd (ts rest : List Token) : Type 0 where
  pub front : List Token
  pub split : ts ≡ front ++ rest

-- the first bad token is the first of the tokens that are lent back
pub record StopsAt {A : Type 0} (L : List Lined → A → List Lined → Type 0) (ts rest : List Token) : Type 0 where
  pub stops : Stops L (views ts) (views rest)
  pub is_end : IsEnd ts rest

-- unless memory ran out, the tokens from the first bad one on are lent back
abbrev pub Refuses : {A : Type 0} → (List Lined → A → List Lined → Type 0) → List Token → Stop → Type 0
Refuses L ts Memory = Unit {0}
Refuses L ts (At rest) = StopsAt L ts rest.now
