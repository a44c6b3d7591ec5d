-- Names such as `P0:3`, of slots and of operations: `P`, the hart's number, `:`, the instruction's number.
use Rattle.std.specs.Prelude.{◌≡◌, ℕ, List, ◌++◌, length, slice_index, codes, Bool, true, not, ◌==◌, nat_lt, ◌&&◌, if◌then◌else◌, Option, None, Some}
use Rattle.std.specs.Char.{is_ascii_digit}
use Rattle.std.specs.List.{list_all}
use Rattle.std.specs.Str.Parse.{digits_value}
use Rattle.fs_kinds.specs.declared.reason.OperationName.{OperationName as Name}

-- a zero before something else
abbrev pub is_padded : List ℕ → Bool
is_padded text = nat_lt 1 (length text) && (slice_index text 0 == 48)

-- decimal digits, at least one, without leading zeros
abbrev pub is_numeral : List ℕ → Bool
is_numeral text = nat_lt 0 (length text) && not (is_padded text) && list_all is_ascii_digit text

-- the number, of any size, that the text writes
pub record Writes (text : List ℕ) (n : ℕ) : Type 0 where
  pub numeral : is_numeral text ≡ true
  pub value : digits_value 10 text ≡ n

abbrev pub IsOperationName : List ℕ → Name → Type 0
IsOperationName text name =
    (hart : List ℕ) × (at : List ℕ) × (text ≡ codes "P" ++ hart ++ codes ":" ++ at) × Writes hart name.hart × Writes at name.at

-- a number of one byte
abbrev pub byte_of : ℕ → Option ℕ
byte_of n = if nat_lt n 256 then Some n else None
