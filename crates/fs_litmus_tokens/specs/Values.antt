-- What initial values and the atoms of conditions are made of: a target and a value (herd7's format of litmus tests).
-- L ts a rest says that the tokens ts are an L that means a, and then rest.
use Rattle.std.specs.Prelude.{◌≡◌, ℕ, List, ◌∷◌, Bool, true, false}
use Rattle.fs_litmus_tokens.specs.Words.{is_name}
use Rattle.fs_litmus_tokens.specs.Tokens.{Lined, Word, Sign}
use Rattle.fs_litmus_tokens.specs.declared.word.Class.{Class}
use Rattle.fs_litmus_tokens.specs.declared.word.Class.TheVariants as class
use Rattle.fs_litmus_tokens.specs.declared.token.Mark.TheVariants.{Colon, OpenBracket, CloseBracket, Minus}
use Rattle.fs_litmus_tokens.specs.declared.values.Target as targets
use Rattle.fs_litmus_tokens.specs.declared.values.Target.TheVariants as target
use Rattle.fs_litmus_tokens.specs.declared.values.Value as values
use Rattle.fs_litmus_tokens.specs.declared.values.Value.TheVariants as value

-- what has a value, as written: a register of a hart, or a location
pub data Target : Type 0 where
  Register : (hart register : List ℕ) → Target
  Location : (name : List ℕ) → Target

-- a value as written: a number, with a minus or without, or a name, which means that location's address
pub data Value : Type 0 where
  Number : (negative : Bool) → (digits : List ℕ) → Value
  Address : (name : List ℕ) → Value

-- a hart's number, : and any word; a name; or [ name ]
pub data IsTarget : List Lined → Target → List Lined → Type 0 where
  register : {h r : List ℕ} {c : Class} {k l m : ℕ} {rest : List Lined} → IsTarget ((Word class.Number h, k) ∷ (Sign Colon, l) ∷ (Word c r, m) ∷ rest) (Register h r) rest
  location : {w : List ℕ} {c : Class} {k : ℕ} {rest : List Lined} → is_name c ≡ true → IsTarget ((Word c w, k) ∷ rest) (Location w) rest
  bracketed : {w : List ℕ} {c : Class} {k l m : ℕ} {rest : List Lined} → is_name c ≡ true → IsTarget ((Sign OpenBracket, k) ∷ (Word c w, l) ∷ (Sign CloseBracket, m) ∷ rest) (Location w) rest

-- a number; - and a number; or a name
pub data IsValue : List Lined → Value → List Lined → Type 0 where
  number : {w : List ℕ} {k : ℕ} {rest : List Lined} → IsValue ((Word class.Number w, k) ∷ rest) (Number false w) rest
  minus : {w : List ℕ} {k l : ℕ} {rest : List Lined} → IsValue ((Sign Minus, k) ∷ (Word class.Number w, l) ∷ rest) (Number true w) rest
  address : {w : List ℕ} {c : Class} {k : ℕ} {rest : List Lined} → is_name c ≡ true → IsValue ((Word c w, k) ∷ rest) (Address w) rest

-- ---- what the reader's values stand for

abbrev pub target_of : targets.Target → Target
target_of (target.Register h r) = Register h.now r.now
target_of (target.Location w) = Location w.now

abbrev pub value_of : values.Value → Value
value_of (value.Number n d) = Number n d.now
value_of (value.Address w) = Address w.now
