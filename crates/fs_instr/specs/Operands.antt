-- What the tokens after a name say: operands, part by part.
use Rattle.std.specs.Prelude.{ℕ, ◌-◌, ◌^◌, List, [], ◌∷◌, Option, Some, None, option_map, option_and_then, Bool, true, false, ◌==◌, ◌&&◌, ◌||◌, not, ◌%◌, is_some, nat_lt, nat_le, ℤ, pos, neg_ℤ, map, if◌then◌else◌}
use denote.Ref.{Bor}
use Rattle.fs_litmus_tokens.specs.Words.{is_name}
use Rattle.fs_litmus_tokens.specs.Tokens.{Tok, Word, Sign, kind_of}
use Rattle.fs_litmus_tokens.specs.declared.token.Token.{Token}
use Rattle.fs_litmus_tokens.specs.declared.token.Mark.{Mark}
use Rattle.fs_litmus_tokens.specs.declared.token.Mark.TheVariants as mark
use Rattle.fs_instr.specs.Registers.{register_of}
use Rattle.fs_litmus_tokens.specs.Numbers.{number_of}
use Rattle.fs_instr.specs.FenceLetters.{letters_of}
use Rattle.fs_instr.specs.declared.letters.Letters.{Letters}
use Rattle.fs_instr.specs.declared.operands.Operands.{Operands}
use Rattle.fs_instr.specs.declared.operands.OperandPart.{OperandPart}
use Rattle.fs_instr.specs.declared.operands.OperandPart.TheVariants as part

-- what is read of the operands
pub record Filled : Type 0 where
  pub rd : ℕ
  pub first : ℕ
  pub second : ℕ
  pub imm : ℤ
  pub constant : ℕ
  pub target : ℕ
  pub label : Option (List ℕ)
  pub before : Letters
  pub after : Letters

abbrev pub filled : Operands → Option (Bor (List ℕ)) → Filled
filled o label = record {
  rd = o.rd;
  first = o.first;
  second = o.second;
  imm = o.imm;
  constant = o.constant;
  target = o.target;
  label = option_map (λ x. x.now) label;
  before = o.before;
  after = o.after;
}

abbrev pub all_letters : Letters
all_letters = record { input = true; output = true; reads = true; writes = true }

-- before anything is read
abbrev pub blank : Filled
blank = record { rd = 0; first = 0; second = 0; imm = pos 0; constant = 0; target = 0; label = None; before = all_letters; after = all_letters }

abbrev pub toks : List Token → List Tok
toks ts = map (λ t. kind_of t.kind) ts

-- ---- one token or a number at the front, with the tokens after it

abbrev pub mark_number : Mark → ℕ
mark_number mark.OpenBrace = 0
mark_number mark.CloseBrace = 1
mark_number mark.Semicolon = 2
mark_number mark.Bar = 3
mark_number mark.Comma = 4
mark_number mark.Colon = 5
mark_number mark.Equals = 6
mark_number mark.OpenParen = 7
mark_number mark.CloseParen = 8
mark_number mark.OpenBracket = 9
mark_number mark.CloseBracket = 10
mark_number mark.Tilde = 11
mark_number mark.Minus = 12
mark_number mark.And = 13
mark_number mark.Or = 14
mark_number mark.Star = 15
mark_number mark.Ampersand = 16
mark_number mark.Less = 17
mark_number mark.Greater = 18
mark_number mark.Bang = 19

-- the same mark
abbrev pub is_mark : Mark → Mark → Bool
is_mark k m = mark_number k == mark_number m

unfoldable pub take_word : List Tok → Option (List ℕ × List Tok)
take_word (Word c w ∷ ts) = Some (w, ts)
take_word _ = None

unfoldable pub take_name : List Tok → Option (List ℕ × List Tok)
take_name (Word c w ∷ ts) = if is_name c then Some (w, ts) else None
take_name _ = None

unfoldable pub take_sign : Mark → List Tok → Option (List Tok)
take_sign m (Sign k ∷ ts) = if is_mark k m then Some ts else None
take_sign m _ = None

unfoldable pub take_register : List Tok → Option (ℕ × List Tok)
take_register ts = option_and_then (λ x. option_map (λ r. (r, x.1)) (register_of x.0)) (take_word ts)

unfoldable pub take_letters : List Tok → Option (Letters × List Tok)
take_letters ts = option_and_then (λ x. option_map (λ l. (l, x.1)) (letters_of x.0)) (take_word ts)

unfoldable pub take_unsigned : List Tok → Option (ℕ × List Tok)
take_unsigned ts = option_and_then (λ x. option_map (λ n. (n, x.1)) (number_of x.0)) (take_word ts)

-- ---- numbers: minus and a number up to 2^31, or a number

abbrev pub negative : Option (ℕ × List Tok) → Option (Bool × ℕ × List Tok)
negative o = option_and_then (λ x. if nat_le x.0 (2 ^ 31) then Some (true, x.0, x.1) else None) o

abbrev pub signed : Option (List Tok) → List Tok → Option (Bool × ℕ × List Tok)
signed None ts = option_map (λ x. (false, x.0, x.1)) (take_unsigned ts)
signed (Some rest) ts = negative (take_unsigned rest)

-- is there a minus; and the number after it
unfoldable pub take_number : List Tok → Option (Bool × ℕ × List Tok)
take_number ts = signed (take_sign mark.Minus ts) ts

-- -2048 to 2047
abbrev pub immediate_of : Bool → ℕ → Option ℤ
immediate_of minus n =
    if minus then (if nat_le n 2048 then Some (neg_ℤ (pos n)) else None)
    else (if nat_lt n 2048 then Some (pos n) else None)

-- below a limit
abbrev pub below_of : ℕ → Bool → ℕ → Option ℕ
below_of limit minus n = if nat_lt n limit && (not minus || n == 0) then Some n else None

-- modulo 2^32
abbrev pub constant_of : Bool → ℕ → ℕ
constant_of minus n = if minus then (2 ^ 32 - n) % 2 ^ 32 else n

-- ---- parts

abbrev pub Read : Type 0
Read = Option (Filled × List Tok)

-- the tokens begin with this part; what it fills in, and the tokens after it
abbrev pub read_part : OperandPart → Filled → List Tok → Read
read_part part.Rd o ts = option_map (λ x. (record o { rd = x.0 }, x.1)) (take_register ts)
read_part part.First o ts = option_map (λ x. (record o { first = x.0 }, x.1)) (take_register ts)
read_part part.Second o ts = option_map (λ x. (record o { second = x.0 }, x.1)) (take_register ts)
read_part part.Zero o ts = option_and_then (λ x. if x.0 == 0 then Some (o, x.1) else None) (take_register ts)
read_part (part.Sign m) o ts = option_map (λ rest. (o, rest)) (take_sign m ts)
read_part part.Immediate o ts = option_and_then (λ x. option_map (λ z. (record o { imm = z }, x.2)) (immediate_of x.0 x.1)) (take_number ts)
read_part part.Offset o ts = if is_some (take_sign mark.OpenParen ts) then Some (o, ts) else option_and_then (λ x. option_map (λ z. (record o { imm = z }, x.2)) (immediate_of x.0 x.1)) (take_number ts)
read_part (part.Below limit) o ts = option_and_then (λ x. option_map (λ n. (record o { constant = n }, x.2)) (below_of limit x.0 x.1)) (take_number ts)
read_part part.Constant o ts = option_map (λ x. (record o { constant = constant_of x.0 x.1 }, x.2)) (take_number ts)
read_part part.NoOffset o ts = if is_some (take_sign mark.OpenParen ts) then Some (o, ts) else option_and_then (λ x. if x.1 == 0 then Some (o, x.2) else None) (take_number ts)
read_part part.Label o ts = option_map (λ x. (record o { label = Some x.0 }, x.1)) (take_name ts)
read_part part.Before o ts = option_map (λ x. (record o { before = x.0 }, x.1)) (take_letters ts)
read_part part.After o ts = option_map (λ x. (record o { after = x.0 }, x.1)) (take_letters ts)

abbrev pub whole : List Tok → Filled → Option Filled
whole [] o = Some o
whole (t ∷ ts) o = None

-- the tokens are these parts in order, and no more; what they fill in
abbrev pub read_parts : List OperandPart → Filled → List Tok → Option Filled
read_parts [] o ts = whole ts o
read_parts (p ∷ ps) o ts = option_and_then (λ x. read_parts ps x.0 x.1) (read_part p o ts)
