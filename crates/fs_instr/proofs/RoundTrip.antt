-- What is printed reads back: names, registers and letters.
use Rattle.std.proofs.Common.{◌≡◌, Some, Bool, true, false, ◌||◌, refl}
use Rattle.fs_instr.specs.Names.{op_of, name_text, register_names, immediate_names, branch_names, single_names, plain_names, acquiring_names, releasing_names, both_names, both_apart_names}
use Rattle.fs_instr.specs.FenceLetters.{letters_of, letters_rows, letters_text, some_letters}
use Rattle.fs_instr.specs.declared.names.Ann.{Ann}
use Rattle.fs_instr.specs.declared.names.RegOp.{RegOp}
use Rattle.fs_instr.specs.declared.names.AmoOp.{AmoOp}
use Rattle.fs_instr.specs.declared.names.BranchOp.{BranchOp}
use Rattle.fs_instr.specs.declared.names.Op.TheVariants.{Register, Immediate, Shift, Lw, Sw, Lr, Sc, Amo, Branch}
use Rattle.fs_instr.specs.declared.names.ImmOp.{ImmOp}
use Rattle.fs_instr.specs.declared.names.ShiftOp.{ShiftOp}
use Rattle.fs_instr.specs.declared.names.RegOp.TheVariants as reg
use Rattle.fs_instr.specs.declared.names.ImmOp.TheVariants as imm
use Rattle.fs_instr.specs.declared.names.ShiftOp.TheVariants as shift
use Rattle.fs_instr.specs.declared.names.AmoOp.TheVariants as amo
use Rattle.fs_instr.specs.declared.names.BranchOp.TheVariants as branch

abbrev pub ann_of : Bool → Bool → Ann
ann_of a r = record { acquire = a; release = r }

pub register_name : (o : RegOp) → op_of (name_text (Register o)) ≡ Some (Register o)
unfolding op_of register_names immediate_names branch_names single_names plain_names acquiring_names releasing_names both_names both_apart_names
register_name reg.Add = refl
register_name reg.Sub = refl
register_name reg.Xor = refl
register_name reg.Or = refl
register_name reg.And = refl
register_name reg.Sll = refl
register_name reg.Srl = refl
register_name reg.Sra = refl
register_name reg.Slt = refl
register_name reg.Sltu = refl

pub branch_name : (o : BranchOp) → op_of (name_text (Branch o)) ≡ Some (Branch o)
unfolding op_of register_names immediate_names branch_names single_names plain_names acquiring_names releasing_names both_names both_apart_names
branch_name branch.Beq = refl
branch_name branch.Bne = refl
branch_name branch.Blt = refl
branch_name branch.Bge = refl
branch_name branch.Bltu = refl
branch_name branch.Bgeu = refl

pub amo_name : (o : AmoOp) (a r : Bool) → op_of (name_text (Amo o (ann_of a r))) ≡ Some (Amo o (ann_of a r))
unfolding op_of register_names immediate_names branch_names single_names plain_names acquiring_names releasing_names both_names both_apart_names
amo_name amo.Swap true true = refl
amo_name amo.Swap true false = refl
amo_name amo.Swap false true = refl
amo_name amo.Swap false false = refl
amo_name amo.Add true true = refl
amo_name amo.Add true false = refl
amo_name amo.Add false true = refl
amo_name amo.Add false false = refl
amo_name amo.Xor true true = refl
amo_name amo.Xor true false = refl
amo_name amo.Xor false true = refl
amo_name amo.Xor false false = refl
amo_name amo.And true true = refl
amo_name amo.And true false = refl
amo_name amo.And false true = refl
amo_name amo.And false false = refl
amo_name amo.Or true true = refl
amo_name amo.Or true false = refl
amo_name amo.Or false true = refl
amo_name amo.Or false false = refl
amo_name amo.Min true true = refl
amo_name amo.Min true false = refl
amo_name amo.Min false true = refl
amo_name amo.Min false false = refl
amo_name amo.Max true true = refl
amo_name amo.Max true false = refl
amo_name amo.Max false true = refl
amo_name amo.Max false false = refl
amo_name amo.Minu true true = refl
amo_name amo.Minu true false = refl
amo_name amo.Minu false true = refl
amo_name amo.Minu false false = refl
amo_name amo.Maxu true true = refl
amo_name amo.Maxu true false = refl
amo_name amo.Maxu false true = refl
amo_name amo.Maxu false false = refl

pub letters_back : (i o r w : Bool) → (i || (o || (r || w))) ≡ true → letters_of (letters_text (some_letters i o r w)) ≡ Some (some_letters i o r w)
unfolding letters_rows
letters_back false false false false h = absurd (cc)
letters_back false false false true h = refl
letters_back false false true false h = refl
letters_back false false true true h = refl
letters_back false true false false h = refl
letters_back false true false true h = refl
letters_back false true true false h = refl
letters_back false true true true h = refl
letters_back true false false false h = refl
letters_back true false false true h = refl
letters_back true false true false h = refl
letters_back true false true true h = refl
letters_back true true false false h = refl
letters_back true true false true h = refl
letters_back true true true false h = refl
letters_back true true true true h = refl

pub immediate_name : (o : ImmOp) → op_of (name_text (Immediate o)) ≡ Some (Immediate o)
unfolding op_of register_names immediate_names branch_names single_names plain_names acquiring_names releasing_names both_names both_apart_names
immediate_name imm.Addi = refl
immediate_name imm.Xori = refl
immediate_name imm.Ori = refl
immediate_name imm.Andi = refl
immediate_name imm.Slti = refl
immediate_name imm.Sltiu = refl

pub shift_name : (o : ShiftOp) → op_of (name_text (Shift o)) ≡ Some (Shift o)
unfolding op_of register_names immediate_names branch_names single_names plain_names acquiring_names releasing_names both_names both_apart_names
shift_name shift.Slli = refl
shift_name shift.Srli = refl
shift_name shift.Srai = refl

pub lw_name : (a r : Bool) → op_of (name_text (Lw (ann_of a r))) ≡ Some (Lw (ann_of a r))
unfolding op_of register_names immediate_names branch_names single_names plain_names acquiring_names releasing_names both_names both_apart_names
lw_name true true = refl
lw_name true false = refl
lw_name false true = refl
lw_name false false = refl

pub sw_name : (a r : Bool) → op_of (name_text (Sw (ann_of a r))) ≡ Some (Sw (ann_of a r))
unfolding op_of register_names immediate_names branch_names single_names plain_names acquiring_names releasing_names both_names both_apart_names
sw_name true true = refl
sw_name true false = refl
sw_name false true = refl
sw_name false false = refl

pub lr_name : (a r : Bool) → op_of (name_text (Lr (ann_of a r))) ≡ Some (Lr (ann_of a r))
unfolding op_of register_names immediate_names branch_names single_names plain_names acquiring_names releasing_names both_names both_apart_names
lr_name true true = refl
lr_name true false = refl
lr_name false true = refl
lr_name false false = refl

pub sc_name : (a r : Bool) → op_of (name_text (Sc (ann_of a r))) ≡ Some (Sc (ann_of a r))
unfolding op_of register_names immediate_names branch_names single_names plain_names acquiring_names releasing_names both_names both_apart_names
sc_name true true = refl
sc_name true false = refl
sc_name false true = refl
sc_name false false = refl
