-- Instructions in print are what is printed of them.
use Rattle.std.proofs.Common.{◌≡◌, ℕ, List, [], ◌∷◌, ◌++◌, refl, ap, append-nil}
use Rattle.std.specs.Prelude.{codes}
use Rattle.std.specs.Fmt.{decimal, signed_decimal}
use Rattle.fs_instr.specs.declared.names.RegOp.{RegOp}
use Rattle.fs_instr.specs.declared.names.RegOp.TheVariants as reg
use Rattle.fs_instr.specs.declared.names.ImmOp.{ImmOp}
use Rattle.fs_instr.specs.declared.names.ImmOp.TheVariants as imm
use Rattle.fs_instr.specs.declared.names.ShiftOp.{ShiftOp}
use Rattle.fs_instr.specs.declared.names.ShiftOp.TheVariants as shift
use Rattle.fs_instr.specs.declared.names.BranchOp.{BranchOp}
use Rattle.fs_instr.specs.declared.names.BranchOp.TheVariants as branch
use Rattle.fs_instr.specs.declared.names.Op.TheVariants as op
use Rattle.fs_instr.specs.declared.instr.Instr.{Instr}
use Rattle.fs_instr.specs.declared.instr.Instr.TheVariants.{Register, Immediate, Shift, Lui, Li, Lw, Sw, Lr, Sc, Amo, Branch, Jump, Fence, FenceTso, FenceI}
use Rattle.fs_instr.specs.Names.{amo_text, branch_text, immediate_text, register_text, suffix_of}
use Rattle.fs_instr.specs.Writing.{instr_text}
use Rattle.fs_app_guarantees.specs.Assembly.{register_op, immediate_op, shift_op, branch_op, x, at, to, row, assembly}

register-alike : (o : RegOp) → register_op o ≡ register_text (op.Register o)
register-alike reg.Add = refl
register-alike reg.Sub = refl
register-alike reg.Xor = refl
register-alike reg.Or = refl
register-alike reg.And = refl
register-alike reg.Sll = refl
register-alike reg.Srl = refl
register-alike reg.Sra = refl
register-alike reg.Slt = refl
register-alike reg.Sltu = refl

immediate-alike : (o : ImmOp) → immediate_op o ≡ immediate_text (op.Immediate o)
immediate-alike imm.Addi = refl
immediate-alike imm.Xori = refl
immediate-alike imm.Ori = refl
immediate-alike imm.Andi = refl
immediate-alike imm.Slti = refl
immediate-alike imm.Sltiu = refl

shift-alike : (o : ShiftOp) → shift_op o ≡ immediate_text (op.Shift o)
shift-alike shift.Slli = refl
shift-alike shift.Srli = refl
shift-alike shift.Srai = refl

branch-alike : (o : BranchOp) → branch_op o ≡ branch_text (op.Branch o)
branch-alike branch.Beq = refl
branch-alike branch.Bne = refl
branch-alike branch.Blt = refl
branch-alike branch.Bge = refl
branch-alike branch.Bltu = refl
branch-alike branch.Bgeu = refl

-- an address behind a number, as one list
at_end : (number rest : List ℕ) → (number ++ 40 ∷ rest) ++ [] ≡ number ++ 40 ∷ rest
at_end number rest = append-nil (number ++ 40 ∷ rest)

-- a name, a blank, and two operands, the second of which is an address behind a number
with_address : (name first number : List ℕ) (base : ℕ)
    → row name (first ∷ (number ++ at base) ∷ []) ≡ name ++ codes " " ++ (first ++ 44 ∷ (number ++ 40 ∷ (x base ++ 41 ∷ [])))
with_address name first number base = ap (λ rest. name ++ codes " " ++ (first ++ 44 ∷ rest)) (at_end number (x base ++ 41 ∷ []))

-- and of which it is one alone
with_base : (name first : List ℕ) (base : ℕ)
    → row name (first ∷ at base ∷ []) ≡ name ++ codes " " ++ (first ++ 44 ∷ 40 ∷ (x base ++ 41 ∷ []))
with_base name first base = ap (λ rest. name ++ codes " " ++ (first ++ 44 ∷ 40 ∷ rest)) (append-nil (x base ++ 41 ∷ []))

with_word : (name first second : List ℕ) (base : ℕ)
    → row name (first ∷ second ∷ at base ∷ []) ≡ name ++ codes " " ++ (first ++ 44 ∷ (second ++ 44 ∷ 40 ∷ (x base ++ 41 ∷ [])))
with_word name first second base =
    ap (λ rest. name ++ codes " " ++ (first ++ 44 ∷ (second ++ 44 ∷ 40 ∷ rest))) (append-nil (x base ++ 41 ∷ []))

pub alike : (i : Instr) → assembly i ≡ instr_text i
unfolding instr_text
alike (Register o rd first second) = ap (λ name. row name (x rd ∷ x first ∷ x second ∷ [])) (register-alike o)
alike (Immediate o rd first immediate) = ap (λ name. row name (x rd ∷ x first ∷ signed_decimal immediate ∷ [])) (immediate-alike o)
alike (Shift o rd first amount) = ap (λ name. row name (x rd ∷ x first ∷ decimal amount ∷ [])) (shift-alike o)
alike (Lui rd upper) = refl
alike (Li rd word) = refl
alike (Lw ann rd base offset) = with_address (codes "lw" ++ suffix_of ann) (x rd) (signed_decimal offset) base
alike (Sw ann value base offset) = with_address (codes "sw" ++ suffix_of ann) (x value) (signed_decimal offset) base
alike (Lr ann rd base) = with_base (codes "lr.w" ++ suffix_of ann) (x rd) base
alike (Sc ann rd value base) = with_word (codes "sc.w" ++ suffix_of ann) (x rd) (x value) base
alike (Amo o ann rd value base) = with_word (amo_text o ++ suffix_of ann) (x rd) (x value) base
alike (Branch o first second target) = ap (λ name. row name (x first ∷ x second ∷ to target ∷ [])) (branch-alike o)
alike (Jump target) = refl
alike (Fence before after) = refl
alike FenceTso = refl
alike FenceI = refl
