-- Atoms of a condition that can't be true or false, since a hart or a register isn't there or a number is out of range
-- (herd7's format of litmus tests).
use Rattle.std.specs.Prelude.{◌≡◌, ◌⊎◌, ℕ, ◌+◌, ◌<◌, List, [], ◌∷◌, Option, Bool, true, false, not, ◌&&◌, ◌||◌, nat_lt, None, Some, is_some, length, take, drop}
use Rattle.fs_litmus_tokens.specs.Tokens.{Tok, Sign, Lined}
use Rattle.fs_litmus_tokens.specs.declared.token.Mark.TheVariants.{Colon, OpenBracket, Equals, Less, Greater, Bang}
use Rattle.fs_litmus_tokens.specs.Numbers.{number_of}
use Rattle.fs_litmus_tokens.specs.Values.{Target, Register, Location, Value, Number, Address, IsTarget, IsValue}
use Rattle.fs_instr.specs.Registers.{register_of}
use Rattle.fs_litmus_syntax.specs.Form.{Form, IsForm}
use Rattle.fs_litmus_syntax.specs.Grammar.{Syntax, IsEqual, IsUnequal, IsCondition}
use Rattle.fs_litmus.specs.Locations.{Names}
use Rattle.fs_litmus.specs.Settings.{setting_of}
use Rattle.fs_litmus.specs.Reads.{HasTokens}

-- whatever locations there are, these aren't a register or a location and its word
abbrev pub IsBad : ℕ → Target → Value → Type 0
IsBad columns target value = (names : Names) → setting_of columns names (target, value) ≡ None

-- the tokens begin with the sign of an atom
abbrev pub IsSign : List Lined → List Lined → Type 0
IsSign tokens rest = IsEqual tokens rest ⊎ IsUnequal tokens rest

-- the tokens begin with a target, a sign, and a value, which are bad
pub record BeginsBad (columns : ℕ) (tokens : List Lined) : Type 0 where
  pub target : Target
  pub value : Value
  pub sign : List Lined
  pub middle : List Lined
  pub after : List Lined
  pub is_target : IsTarget tokens target sign
  pub is_sign : IsSign sign middle
  pub is_value : IsValue middle value after
  pub is_bad : IsBad columns target value

-- a token within a target, behind which the target goes on
abbrev pub opens : Tok → Bool
opens (Sign Colon) = true
opens (Sign OpenBracket) = true
opens _ = false

abbrev pub ends_open : List Lined → Bool
ends_open [] = false
ends_open (t ∷ []) = opens t.0
ends_open (t ∷ u ∷ ts) = ends_open (u ∷ ts)

-- a bad atom begins behind so many tokens of these, and no target before it goes on there
pub record IsBadAfter (columns : ℕ) (tokens : List Lined) (i : ℕ) : Type 0 where
  pub whole : ends_open (take i tokens) ≡ false
  pub begins : BeginsBad columns (drop i tokens)

-- The tokens are those of a test file, and the first bad atom of its condition begins with token number n.
pub record IsBadAtom (tokens : List Lined) (n : ℕ) : Type 0 where
  pub form : Form
  pub syntax_of : Syntax
  pub rest : List Lined
  pub is_form : IsForm tokens form rest
  pub is_condition : IsCondition rest syntax_of
  -- how many tokens of the condition stand before it
  pub before : ℕ
  pub is_bad : IsBadAfter form.columns rest before
  -- it is the first
  pub first : (earlier : ℕ) → earlier < before → ¬ IsBadAfter form.columns rest earlier
  pub number : n + length rest ≡ length tokens + before

pub record IsBadAtomOf (bytes : List ℕ) (n : ℕ) : Type 0 where
  pub tokens : List Lined
  pub has_tokens : HasTokens bytes tokens true
  pub is_bad_atom : IsBadAtom tokens n

-- ---- the same, computed

-- the number of a hart that is there
abbrev pub is_hart_number : ℕ → Option ℕ → Bool
is_hart_number columns None = false
is_hart_number columns (Some n) = nat_lt n columns

-- a number that no word is, or is the negative of
abbrev pub is_far : Bool → Option ℕ → Bool
is_far negative None = true
is_far negative (Some n) = negative && nat_lt 2147483648 n

-- a register of a hart that isn't there, or that isn't there itself
abbrev pub is_absent : ℕ → Target → Bool
is_absent columns (Register h r) = not (is_hart_number columns (number_of h)) || not (is_some (register_of r))
is_absent columns (Location w) = false

-- a number out of range
abbrev pub is_out_of_range : Value → Bool
is_out_of_range (Number negative digits) = is_far negative (number_of digits)
is_out_of_range (Address w) = false

-- no atom of the condition of these tokens is bad, where they are those of a test file
abbrev pub HasNoBadAtom : List Lined → Type 0
HasNoBadAtom tokens = (form : Form) (s : Syntax) (rest : List Lined) → IsForm tokens form rest → IsCondition rest s → (i : ℕ) → ¬ IsBadAfter form.columns rest i

-- the tokens begin with a target
abbrev pub BeginsTarget : List Lined → Type 0
BeginsTarget tokens = (target : Target) × (rest : List Lined) × IsTarget tokens target rest

-- the tokens behind the sign of an atom, the longest
abbrev pub behind_sign : List Lined → Option (List Lined)
behind_sign ((Sign Equals, j) ∷ (Sign Equals, k) ∷ ts) = Some ts
behind_sign ((Sign Equals, j) ∷ ts) = Some ts
behind_sign ((Sign Less, j) ∷ (Sign Greater, k) ∷ ts) = Some ts
behind_sign ((Sign Bang, j) ∷ (Sign Equals, k) ∷ ts) = Some ts
behind_sign _ = None

-- the tokens begin with a value
abbrev pub BeginsValue : List Lined → Type 0
BeginsValue tokens = (value : Value) × (rest : List Lined) × IsValue tokens value rest
