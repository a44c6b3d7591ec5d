-- How many tokens an instruction has at most.
use Rattle.std.proofs.Common.{ℕ, ◌+◌, ◌*◌, ◌≤◌, ◌<◌, List, Option, length, arith, lit≤, Bool}
use Rattle.fs_litmus_tokens.specs.Tokens.{Tok}
use Rattle.fs_instr.specs.Operands.{Filled}
use Rattle.fs_instr.specs.Instructions.{parts_of}
use Rattle.fs_instr.specs.Reading.{is_alone, is_empty}
use Rattle.fs_instr.specs.Spelled.{IsNumber, plus, minus, IsPart, rd, first, second, x0, sign, imm, no_imm, offset, below, constant, no_offset, zero_offset, label, before, after, AreParts, none, next, Spells, spells, IsUnsupported, unsupported}
use Rattle.fs_instr.specs.declared.names.Op.{Op}
use Rattle.fs_instr.specs.declared.names.Op.TheVariants as op
use Rattle.fs_instr.specs.declared.instr.Instr.{Instr}
use Rattle.fs_instr.specs.declared.operands.OperandPart.{OperandPart}

number_length : {ts : List Tok} {m : Bool} {n : ℕ} {rest : List Tok} → IsNumber ts m n rest → length ts ≤ length rest + 2
number_length (plus e) = omega arith
number_length (minus e s) = omega arith

part_length : {p : OperandPart} {o : Filled} {ts : List Tok} {o1 : Filled} {rest : List Tok} → IsPart p o ts o1 rest → length ts ≤ length rest + 2
part_length (rd e) = omega arith
part_length (first e) = omega arith
part_length (second e) = omega arith
part_length (x0 e) = omega arith
part_length sign = omega arith
part_length (imm n z) = number_length n
part_length no_imm = omega arith
part_length (offset n z) = number_length n
part_length (below n z) = number_length n
part_length (constant n) = number_length n
part_length no_offset = omega arith
part_length (zero_offset n) = number_length n
part_length (label e) = omega arith
part_length (before e) = omega arith
part_length (after e) = omega arith

parts_length : {ps : List OperandPart} {o : Filled} {ts : List Tok} {f : Filled} → AreParts ps o ts f → length ts ≤ 2 * length ps
parts_length none = omega arith
parts_length (next h k) = omega (arith, part_length h, parts_length k)

row_length : (o : Op) → length (parts_of o) ≤ 9
row_length (op.Register o) = lit≤ tt
row_length (op.Immediate o) = lit≤ tt
row_length (op.Shift o) = lit≤ tt
row_length op.Lui = lit≤ tt
row_length op.Li = lit≤ tt
row_length (op.Lw ann) = lit≤ tt
row_length (op.Sw ann) = lit≤ tt
row_length (op.Lr ann) = lit≤ tt
row_length (op.Sc ann) = lit≤ tt
row_length (op.Amo o ann) = lit≤ tt
row_length (op.Branch o) = lit≤ tt
row_length op.Jal = lit≤ tt
row_length op.Fence = lit≤ tt
row_length op.FenceTso = lit≤ tt
row_length op.FenceI = lit≤ tt
row_length op.Nop = lit≤ tt
row_length op.Mv = lit≤ tt
row_length op.Seqz = lit≤ tt
row_length op.Not = lit≤ tt
row_length (op.OfZero o) = lit≤ tt
row_length (op.WithZero o) = lit≤ tt
row_length (op.BranchZero o) = lit≤ tt
row_length (op.ZeroBranch o) = lit≤ tt
row_length (op.Swapped o) = lit≤ tt
row_length op.J = lit≤ tt
row_length op.FenceAll = lit≤ tt

pub spelled_length : {ts : List Tok} {i : Instr} {l : Option (List ℕ)} → Spells ts i l → length ts < 20
spelled_length (spells {ts = ts} {op = o} e h r) = omega (arith, parts_length h, row_length (is_alone o (is_empty ts)))

pub unsupported_length : {ts : List Tok} → IsUnsupported ts → length ts < 20
unsupported_length (unsupported {ts = ts} {op = o} e h r) = omega (arith, parts_length h, row_length (is_alone o (is_empty ts)))
