-- Which token of a test file a fault is of, and where it begins (herd7's format of litmus tests).
use Rattle.std.specs.Prelude.{◌≡◌, ℕ, ◌+◌, ◌-◌, ◌≤◌, ◌==◌, List, Bool, false, Option, None, Some, length, drop, slice_get, if◌then◌else◌}
use Rattle.std.specs.Str.{IsUtf8, IsValidUpTo}
use Rattle.fs_kinds.specs.FaultLine.{number}
use Rattle.fs_kinds.specs.declared.fault.Fault.{Fault}
use Rattle.fs_kinds.specs.declared.fault.Fault.TheVariants.{BadUtf8, NotRiscv, BadCondition, Syntax, UnknownInstr, BadAnnotation, BadLabel, BadInit}
use Rattle.fs_litmus_tokens.specs.Tokens.{Lined}
use Rattle.fs_litmus.specs.Title.{top_of, HasBody}
use Rattle.fs_litmus.specs.Reads.{HasTokens}
use Rattle.fs_litmus.specs.Faults.{HasFault, IsTestFault}
use Rattle.fs_app_error_messages.specs.Apart.{apart, renumbered}
use Rattle.fs_app_error_messages.specs.Atoms.{IsBadAtomOf}
use Rattle.fs_app_error_messages.specs.Walks.{BeginsAt}
use Rattle.fs_app_error_messages.specs.declared.point.Aim.{Aim}
use Rattle.fs_app_error_messages.specs.declared.point.Aim.TheVariants.{Encoding, Title, InLine, Atom, Nowhere}
use Rattle.fs_app_error_messages.specs.declared.point.Point.{Point}
use Rattle.fs_app_error_messages.specs.declared.point.Point.TheVariants.{Token, Byte}

-- what a fault of a test file is pointed at by: by its number
abbrev pub aim_of : Fault → Aim
aim_of BadUtf8 = Encoding
aim_of NotRiscv = Title
aim_of (Syntax line) = InLine
aim_of (UnknownInstr line) = InLine
aim_of (BadAnnotation line) = InLine
aim_of (BadLabel line) = InLine
aim_of (BadInit line) = InLine
aim_of BadCondition = Atom
aim_of _ = Nowhere

-- the line of a fault, where it has one
abbrev pub line_of : Fault → Option ℕ
line_of (Syntax line) = Some line
line_of (UnknownInstr line) = Some line
line_of (BadAnnotation line) = Some line
line_of (BadLabel line) = Some line
line_of (BadInit line) = Some line
line_of _ = None

-- the fault of the file has the same number as this one, and is in line n + 2
pub record IsFaultIn (file : List ℕ) (f : Fault) (n : ℕ) : Type 0 where
  pub found : Fault
  pub is_fault : IsTestFault file found
  pub same_number : number found ≡ number f
  pub in_line : line_of found ≡ Some (n + 2)

-- The fault has a line, and is of token number n, from 0 on: where each token of the file stands in a line of its own,
-- the fault of the same number is in the line of this one; or, where there are n tokens, it is of the end of the file.
pub record IsFaultOf (bytes : List ℕ) (f : Fault) (n : ℕ) : Type 0 where
  pub has_line : aim_of f ≡ InLine
  pub tokens : List Lined
  pub closed : Bool
  pub has_tokens : HasTokens bytes tokens closed
  pub apart_alike : HasTokens (apart tokens closed) (renumbered 2 tokens) closed
  pub is_fault : IsFaultIn (apart tokens closed) f n

-- token number n of a test file begins at this offset
pub record IsTokenAt (bytes : List ℕ) (n offset : ℕ) : Type 0 where
  pub body : List ℕ
  pub line : ℕ
  pub has_body : HasBody bytes body line
  pub begins : BeginsAt n body (drop offset bytes)

-- there is no token of this number
pub record IsPastTokens (bytes : List ℕ) (n : ℕ) : Type 0 where
  pub tokens : List Lined
  pub closed : Bool
  pub has_tokens : HasTokens bytes tokens closed
  pub past : length tokens ≤ n

abbrev pub is_line_end : Option ℕ → Bool
is_line_end None = false
is_line_end (Some b) = b == 10

-- the offset behind the last line; an LF at the end of the file begins none
abbrev pub end_of : List ℕ → ℕ
end_of bytes = if is_line_end (slice_get bytes (length bytes - 1)) then length bytes - 1 else length bytes

-- the offset at which the line begins that should be the title's
abbrev pub title_start : List ℕ → ℕ
title_start bytes = length bytes - length (top_of bytes).0

-- where a fault is pointed at; those from F9 on nowhere
pub data IsPoint (bytes : List ℕ) : Fault → Point → Type 0 where
  -- the first byte that isn't UTF-8
  encoding : {n : ℕ} → ¬ IsUtf8 bytes → IsValidUpTo bytes n → IsPoint bytes BadUtf8 (Byte n)
  -- the first byte of the line that should be the title's
  title : IsPoint bytes NotRiscv (Byte (title_start bytes))
  -- the token that a fault with a line is of
  token : {f : Fault} {n offset : ℕ} → IsFaultOf bytes f n → IsTokenAt bytes n offset → IsPoint bytes f (Token n offset)
  -- the first token of the first atom that can't be true or false
  atom : {n offset : ℕ} → IsBadAtomOf bytes n → IsTokenAt bytes n offset → IsPoint bytes BadCondition (Token n offset)
  -- the end, where that is no token
  finish : {f : Fault} {n : ℕ} → IsFaultOf bytes f n → IsPastTokens bytes n → IsPoint bytes f (Byte (end_of bytes))

-- There is no place: nor has the file F8, if that is the fault, nor has it a byte that isn't UTF-8, if F1 is.
pub record IsNowhere (bytes : List ℕ) (f : Fault) : Type 0 where
  pub no_point : (p : Point) → ¬ IsPoint bytes f p
  pub encoding : f ≡ BadUtf8 → IsUtf8 bytes
  pub condition : f ≡ BadCondition → ¬ HasFault bytes BadCondition

-- a place is given exactly where there is one
abbrev pub IsPlaced : List ℕ → Fault → Option Point → Type 0
IsPlaced bytes f (Some p) = IsPoint bytes f p
IsPlaced bytes f None = IsNowhere bytes f
