-- The tokens of an instruction are words and marks.
use Rattle.std.proofs.Common.{◌≡◌, ℕ, List, Option, Bool, true, refl}
use Rattle.fs_litmus_tokens.specs.Tokens.{Tok}
use Rattle.fs_litmus_tokens.specs.Few.{are_plain}
use Rattle.fs_instr.specs.Operands.{Filled}
use Rattle.fs_instr.specs.Spelled.{IsNumber, plus, minus, IsPart, rd, first, second, x0, sign, imm, no_imm, offset, below, constant, no_offset, zero_offset, label, before, after, AreParts, none, next, Spells, spells, IsUnsupported, unsupported}
use Rattle.fs_instr.specs.declared.instr.Instr.{Instr}
use Rattle.fs_instr.specs.declared.operands.OperandPart.{OperandPart}

number_plain : {ts : List Tok} {m : Bool} {n : ℕ} {rest : List Tok} → IsNumber ts m n rest → are_plain rest ≡ true → are_plain ts ≡ true
number_plain (plus e) h = h
number_plain (minus e s) h = h

part_plain : {p : OperandPart} {o : Filled} {ts : List Tok} {o1 : Filled} {rest : List Tok} → IsPart p o ts o1 rest → are_plain rest ≡ true → are_plain ts ≡ true
part_plain (rd e) h = h
part_plain (first e) h = h
part_plain (second e) h = h
part_plain (x0 e) h = h
part_plain sign h = h
part_plain (imm n z) h = number_plain n h
part_plain no_imm h = h
part_plain (offset n z) h = number_plain n h
part_plain (below n z) h = number_plain n h
part_plain (constant n) h = number_plain n h
part_plain no_offset h = h
part_plain (zero_offset n) h = number_plain n h
part_plain (label e) h = h
part_plain (before e) h = h
part_plain (after e) h = h

parts_plain : {ps : List OperandPart} {o : Filled} {ts : List Tok} {f : Filled} → AreParts ps o ts f → are_plain ts ≡ true
parts_plain none = refl
parts_plain (next h k) = part_plain h (parts_plain k)

pub spelled_plain : {ts : List Tok} {i : Instr} {l : Option (List ℕ)} → Spells ts i l → are_plain ts ≡ true
spelled_plain (spells e h r) = parts_plain h

pub unsupported_plain : {ts : List Tok} → IsUnsupported ts → are_plain ts ≡ true
unsupported_plain (unsupported e h r) = parts_plain h
