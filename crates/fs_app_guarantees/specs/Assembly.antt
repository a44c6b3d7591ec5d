-- Instructions in print, as `place` prints them.
use Rattle.std.specs.Prelude.{ℕ, List, [], ◌∷◌, ◌++◌, codes}
use Rattle.std.specs.Fmt.{decimal, signed_decimal}
use Rattle.fs_instr.specs.declared.names.RegOp.{RegOp}
use Rattle.fs_instr.specs.declared.names.RegOp.TheVariants as reg
use Rattle.fs_instr.specs.declared.names.ImmOp.{ImmOp}
use Rattle.fs_instr.specs.declared.names.ImmOp.TheVariants as imm
use Rattle.fs_instr.specs.declared.names.ShiftOp.{ShiftOp}
use Rattle.fs_instr.specs.declared.names.ShiftOp.TheVariants as shift
use Rattle.fs_instr.specs.declared.names.BranchOp.{BranchOp}
use Rattle.fs_instr.specs.declared.names.BranchOp.TheVariants as branch
use Rattle.fs_instr.specs.declared.instr.Instr.{Instr}
use Rattle.fs_instr.specs.declared.instr.Instr.TheVariants.{Register, Immediate, Shift, Lui, Li, Lw, Sw, Lr, Sc, Amo, Branch, Jump, Fence, FenceTso, FenceI}
use Rattle.fs_instr.specs.FenceLetters.{letters_text}
use Rattle.fs_instr.specs.Names.{amo_text, suffix_of}
use Rattle.fs_model.specs.Printed.{joined}

abbrev pub register_op : RegOp → List ℕ
register_op reg.Add = codes "add"
register_op reg.Sub = codes "sub"
register_op reg.Xor = codes "xor"
register_op reg.Or = codes "or"
register_op reg.And = codes "and"
register_op reg.Sll = codes "sll"
register_op reg.Srl = codes "srl"
register_op reg.Sra = codes "sra"
register_op reg.Slt = codes "slt"
register_op reg.Sltu = codes "sltu"

abbrev pub immediate_op : ImmOp → List ℕ
immediate_op imm.Addi = codes "addi"
immediate_op imm.Xori = codes "xori"
immediate_op imm.Ori = codes "ori"
immediate_op imm.Andi = codes "andi"
immediate_op imm.Slti = codes "slti"
immediate_op imm.Sltiu = codes "sltiu"

abbrev pub shift_op : ShiftOp → List ℕ
shift_op shift.Slli = codes "slli"
shift_op shift.Srli = codes "srli"
shift_op shift.Srai = codes "srai"

abbrev pub branch_op : BranchOp → List ℕ
branch_op branch.Beq = codes "beq"
branch_op branch.Bne = codes "bne"
branch_op branch.Blt = codes "blt"
branch_op branch.Bge = codes "bge"
branch_op branch.Bltu = codes "bltu"
branch_op branch.Bgeu = codes "bgeu"

-- a register by its number, and the same as an address
abbrev pub x : ℕ → List ℕ
x number = codes "x" ++ decimal number

abbrev pub at : ℕ → List ℕ
at base = codes "(" ++ x base ++ codes ")"

-- where a branch goes: a position in the code
abbrev pub to : ℕ → List ℕ
to target = codes "L" ++ decimal target

-- a name, a blank, and operands with commas between them
abbrev pub row : List ℕ → List (List ℕ) → List ℕ
row name operands = name ++ codes " " ++ joined (codes ",") operands

abbrev pub assembly : Instr → List ℕ
assembly (Register op rd first second) = row (register_op op) (x rd ∷ x first ∷ x second ∷ [])
assembly (Immediate op rd first immediate) = row (immediate_op op) (x rd ∷ x first ∷ signed_decimal immediate ∷ [])
assembly (Shift op rd first amount) = row (shift_op op) (x rd ∷ x first ∷ decimal amount ∷ [])
assembly (Lui rd upper) = row (codes "lui") (x rd ∷ decimal upper ∷ [])
assembly (Li rd word) = row (codes "li") (x rd ∷ decimal word ∷ [])
assembly (Lw ann rd base offset) = row (codes "lw" ++ suffix_of ann) (x rd ∷ (signed_decimal offset ++ at base) ∷ [])
assembly (Sw ann value base offset) = row (codes "sw" ++ suffix_of ann) (x value ∷ (signed_decimal offset ++ at base) ∷ [])
assembly (Lr ann rd base) = row (codes "lr.w" ++ suffix_of ann) (x rd ∷ at base ∷ [])
assembly (Sc ann rd value base) = row (codes "sc.w" ++ suffix_of ann) (x rd ∷ x value ∷ at base ∷ [])
assembly (Amo op ann rd value base) = row (amo_text op ++ suffix_of ann) (x rd ∷ x value ∷ at base ∷ [])
assembly (Branch op first second target) = row (branch_op op) (x first ∷ x second ∷ to target ∷ [])
assembly (Jump target) = row (codes "jal") (codes "x0" ∷ to target ∷ [])
assembly (Fence before after) = row (codes "fence") (letters_text before ∷ letters_text after ∷ [])
assembly FenceTso = codes "fence.tso"
assembly FenceI = codes "fence.i"
