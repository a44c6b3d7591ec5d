-- Where the tokens of a text begin (herd7's format of litmus tests).
use Rattle.std.specs.Prelude.{◌≡◌, ℕ, ◌+◌, ◌≤◌, zero, suc, List, ◌∷◌, Bool, ◌==◌, ◌&&◌, length, drop}
use Rattle.fs_litmus_tokens.specs.Bytes.{begins}
use Rattle.fs_litmus_tokens.specs.Tokens.{Tok, Lined, Front, Skip, Take, Unclosed, piece, AreTokens}
use Rattle.fs_app_error_messages.specs.declared.walk.Step as steps
use Rattle.fs_app_error_messages.specs.declared.walk.Step.TheVariants as step

-- token number n of the bytes, from 0 on, begins where these bytes begin, whatever line they stand in
pub data BeginsAt : ℕ → List ℕ → List ℕ → Type 0 where
  here : {b : ℕ} {bs rest : List ℕ} {t : Tok} → piece b bs 0 ≡ Take t rest → BeginsAt zero (b ∷ bs) (b ∷ bs)
  skip : {n b next : ℕ} {bs rest at : List ℕ} → piece b bs 0 ≡ Skip rest next → BeginsAt n rest at → BeginsAt n (b ∷ bs) at
  later : {n b : ℕ} {bs rest at : List ℕ} {t : Tok} → piece b bs 0 ≡ Take t rest → BeginsAt n rest at → BeginsAt (suc n) (b ∷ bs) at

-- the bytes are no more tokens than these, whatever line they stand in
abbrev pub AreAtMost : List ℕ → ℕ → Type 0
AreAtMost bytes n = (line : ℕ) (tokens : List Lined) (closed : Bool) → AreTokens bytes line tokens closed → length tokens ≤ n

-- ---- what the walk does

-- what stands at the front of a text, without the token and the line: something to skip, or a token, with the bytes
-- after it; or a comment that isn't closed
pub data Shape : Type 0 where
  Blank : List ℕ → Shape
  Token : List ℕ → Shape
  Open : Shape

-- two bytes end a comment
abbrev pub ends_comment : ℕ → List ℕ → Bool
ends_comment b bs = b == 42 && begins 41 bs

-- and two begin one
abbrev pub begins_comment : ℕ → List ℕ → Bool
begins_comment b bs = b == 40 && begins 42 bs

abbrev pub shape_of : Front → Shape
shape_of (Skip rest line) = Blank rest
shape_of (Take t rest) = Token rest
shape_of Unclosed = Open

-- the shape where so many of these bytes are gone
abbrev pub step_of : List ℕ → steps.Step → Shape
step_of bs (step.Blank n) = Blank (drop n bs)
step_of bs (step.Token n) = Token (drop n bs)
step_of bs step.Open = Open

-- a byte or more, where so many stand behind the first
abbrev pub Moves : ℕ → steps.Step → Type 0
Moves n (step.Blank k) = (1 ≤ k) × (k ≤ n + 1)
Moves n (step.Token k) = (1 ≤ k) × (k ≤ n + 1)
Moves n step.Open = Unit {0}
