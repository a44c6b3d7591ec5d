-- The instruction table: what each row's operands are, and what instruction they make.
use Rattle.std.specs.Prelude.{ℕ, List, [], ◌∷◌, Option, Some, None, pos, negsuc}
use Rattle.fs_litmus_tokens.specs.declared.token.Mark.TheVariants.{Comma, OpenParen, CloseParen}
pub use Rattle.fs_instr.specs.Roles.{nop, roles, roles_of, dest_of, sources_of, address_of, data_of, carries_of, is_memory, is_conditional}
use Rattle.fs_instr.specs.Operands.{all_letters}
use Rattle.fs_instr.specs.declared.names.Op.{Op}
use Rattle.fs_instr.specs.declared.names.Op.TheVariants as op
use Rattle.fs_instr.specs.declared.names.ImmOp.TheVariants.{Addi, Sltiu, Xori}
use Rattle.fs_instr.specs.declared.operands.Operands.{Operands}
use Rattle.fs_instr.specs.declared.operands.OperandPart.{OperandPart}
use Rattle.fs_instr.specs.declared.operands.OperandPart.TheVariants.{Rd, First, Second, Zero, Sign, Immediate, Offset, Below, Constant, NoOffset, Label, Before, After}
use Rattle.fs_instr.specs.declared.instr.Instr.{Instr}
use Rattle.fs_instr.specs.declared.instr.Instr.TheVariants as instr

abbrev pub comma : OperandPart
comma = Sign Comma

-- ( register )
abbrev pub at_first : List OperandPart
at_first = Sign OpenParen ∷ First ∷ Sign CloseParen ∷ []

abbrev pub parts_of : Op → List OperandPart
parts_of (op.Register o) = Rd ∷ comma ∷ First ∷ comma ∷ Second ∷ []
parts_of (op.Immediate o) = Rd ∷ comma ∷ First ∷ comma ∷ Immediate ∷ []
parts_of (op.Shift o) = Rd ∷ comma ∷ First ∷ comma ∷ Below 32 ∷ []
parts_of op.Lui = Rd ∷ comma ∷ Below 1048576 ∷ []
parts_of op.Li = Rd ∷ comma ∷ Constant ∷ []
parts_of (op.Lw ann) = Rd ∷ comma ∷ Offset ∷ at_first
parts_of (op.Sw ann) = Second ∷ comma ∷ Offset ∷ at_first
parts_of (op.Lr ann) = Rd ∷ comma ∷ NoOffset ∷ at_first
parts_of (op.Sc ann) = Rd ∷ comma ∷ Second ∷ comma ∷ NoOffset ∷ at_first
parts_of (op.Amo o ann) = Rd ∷ comma ∷ Second ∷ comma ∷ NoOffset ∷ at_first
parts_of (op.Branch o) = First ∷ comma ∷ Second ∷ comma ∷ Label ∷ []
parts_of op.Jal = Zero ∷ comma ∷ Label ∷ []
parts_of op.Fence = Before ∷ comma ∷ After ∷ []
parts_of op.FenceTso = []
parts_of op.FenceI = []
parts_of op.Nop = []
parts_of op.Mv = Rd ∷ comma ∷ First ∷ []
parts_of op.Seqz = Rd ∷ comma ∷ First ∷ []
parts_of op.Not = Rd ∷ comma ∷ First ∷ []
parts_of (op.OfZero o) = Rd ∷ comma ∷ Second ∷ []
parts_of (op.WithZero o) = Rd ∷ comma ∷ First ∷ []
parts_of (op.BranchZero o) = First ∷ comma ∷ Label ∷ []
parts_of (op.ZeroBranch o) = Second ∷ comma ∷ Label ∷ []
parts_of (op.Swapped o) = Second ∷ comma ∷ First ∷ comma ∷ Label ∷ []
parts_of op.J = Label ∷ []
parts_of op.FenceAll = []

abbrev pub instr_of : Op → Operands → Instr
instr_of (op.Register o) x = instr.Register o x.rd x.first x.second
instr_of (op.Immediate o) x = instr.Immediate o x.rd x.first x.imm
instr_of (op.Shift o) x = instr.Shift o x.rd x.first x.constant
instr_of op.Lui x = instr.Lui x.rd x.constant
instr_of op.Li x = instr.Li x.rd x.constant
instr_of (op.Lw ann) x = instr.Lw ann x.rd x.first x.imm
instr_of (op.Sw ann) x = instr.Sw ann x.second x.first x.imm
instr_of (op.Lr ann) x = instr.Lr ann x.rd x.first
instr_of (op.Sc ann) x = instr.Sc ann x.rd x.second x.first
instr_of (op.Amo o ann) x = instr.Amo o ann x.rd x.second x.first
instr_of (op.Branch o) x = instr.Branch o x.first x.second x.target
instr_of op.Jal x = instr.Jump x.target
instr_of op.Fence x = instr.Fence x.before x.after
instr_of op.FenceTso x = instr.FenceTso
instr_of op.FenceI x = instr.FenceI
instr_of op.Nop x = nop
instr_of op.Mv x = instr.Immediate Addi x.rd x.first (pos 0)
instr_of op.Seqz x = instr.Immediate Sltiu x.rd x.first (pos 1)
instr_of op.Not x = instr.Immediate Xori x.rd x.first (negsuc 0)
instr_of (op.OfZero o) x = instr.Register o x.rd 0 x.second
instr_of (op.WithZero o) x = instr.Register o x.rd x.first 0
instr_of (op.BranchZero o) x = instr.Branch o x.first 0 x.target
instr_of (op.ZeroBranch o) x = instr.Branch o 0 x.second x.target
instr_of (op.Swapped o) x = instr.Branch o x.first x.second x.target
instr_of op.J x = instr.Jump x.target
instr_of op.FenceAll x = instr.Fence all_letters all_letters

-- ---- from an instruction back to its row and operands

abbrev pub op_of_instr : Instr → Op
op_of_instr (instr.Register o rd a b) = op.Register o
op_of_instr (instr.Immediate o rd a z) = op.Immediate o
op_of_instr (instr.Shift o rd a n) = op.Shift o
op_of_instr (instr.Lui rd n) = op.Lui
op_of_instr (instr.Li rd n) = op.Li
op_of_instr (instr.Lw ann rd a z) = op.Lw ann
op_of_instr (instr.Sw ann v a z) = op.Sw ann
op_of_instr (instr.Lr ann rd a) = op.Lr ann
op_of_instr (instr.Sc ann rd v a) = op.Sc ann
op_of_instr (instr.Amo o ann rd v a) = op.Amo o ann
op_of_instr (instr.Branch o a b t) = op.Branch o
op_of_instr (instr.Jump t) = op.Jal
op_of_instr (instr.Fence p s) = op.Fence
op_of_instr instr.FenceTso = op.FenceTso
op_of_instr instr.FenceI = op.FenceI

abbrev pub empty : Operands
empty = record { rd = 0; first = 0; second = 0; imm = pos 0; constant = 0; target = 0; before = all_letters; after = all_letters }

abbrev pub operands_of : Instr → Operands
operands_of (instr.Register o rd a b) = record empty { rd = rd; first = a; second = b }
operands_of (instr.Immediate o rd a z) = record empty { rd = rd; first = a; imm = z }
operands_of (instr.Shift o rd a n) = record empty { rd = rd; first = a; constant = n }
operands_of (instr.Lui rd n) = record empty { rd = rd; constant = n }
operands_of (instr.Li rd n) = record empty { rd = rd; constant = n }
operands_of (instr.Lw ann rd a z) = record empty { rd = rd; first = a; imm = z }
operands_of (instr.Sw ann v a z) = record empty { second = v; first = a; imm = z }
operands_of (instr.Lr ann rd a) = record empty { rd = rd; first = a }
operands_of (instr.Sc ann rd v a) = record empty { rd = rd; second = v; first = a }
operands_of (instr.Amo o ann rd v a) = record empty { rd = rd; second = v; first = a }
operands_of (instr.Branch o a b t) = record empty { first = a; second = b; target = t }
operands_of (instr.Jump t) = record empty { target = t }
operands_of (instr.Fence p s) = record empty { before = p; after = s }
operands_of instr.FenceTso = empty
operands_of instr.FenceI = empty

abbrev pub targeted : ℕ → Instr → Instr
targeted target (instr.Branch o a b t) = instr.Branch o a b target
targeted target (instr.Jump t) = instr.Jump target
targeted target other = other

-- the position that a branch or a jump goes to
abbrev pub target_of : Instr → Option ℕ
target_of (instr.Branch o a b target) = Some target
target_of (instr.Jump target) = Some target
target_of _ = None
