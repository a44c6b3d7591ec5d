-- The names of the instruction table.
use Rattle.std.specs.Prelude.{ℕ, List, [], ◌∷◌, ◌++◌, Option, Some, None, Bool, true, false, codes, map}
use Rattle.fs_instr.specs.Rows.{look_up}
use Rattle.std.specs.Option.{option_or}
use Rattle.fs_instr.specs.declared.names.Ann.{Ann}
use Rattle.fs_instr.specs.declared.names.AmoOp.{AmoOp}
use Rattle.fs_instr.specs.declared.names.Op.{Op}
use Rattle.fs_instr.specs.declared.names.Op.TheVariants.{Register, Immediate, Shift, Lui, Li, Lw, Sw, Lr, Sc, Amo, Branch, Jal, Fence, FenceTso, FenceI, Nop, Mv, Seqz, Not, OfZero, WithZero, BranchZero, ZeroBranch, Swapped, J, FenceAll}
use Rattle.fs_instr.specs.declared.names.RegOp.TheVariants.{Add, Sub, Xor, Or, And, Sll, Srl, Sra, Slt, Sltu}
use Rattle.fs_instr.specs.declared.names.ImmOp.TheVariants.{Addi, Xori, Ori, Andi, Slti, Sltiu}
use Rattle.fs_instr.specs.declared.names.ShiftOp.TheVariants.{Slli, Srli, Srai}
use Rattle.fs_instr.specs.declared.names.BranchOp.TheVariants.{Beq, Bne, Blt, Bge, Bltu, Bgeu}
use Rattle.fs_instr.specs.declared.names.AmoOp.TheVariants as amo

abbrev pub plain : Ann
plain = record { acquire = false; release = false }

abbrev pub acquiring : Ann
acquiring = record { acquire = true; release = false }

abbrev pub releasing : Ann
releasing = record { acquire = false; release = true }

abbrev pub both : Ann
both = record { acquire = true; release = true }

-- two registers
unfoldable pub register_names : List (List ℕ × Op)
register_names =
    (codes "add", Register Add) ∷
    (codes "sub", Register Sub) ∷
    (codes "xor", Register Xor) ∷
    (codes "or", Register Or) ∷
    (codes "and", Register And) ∷
    (codes "sll", Register Sll) ∷
    (codes "srl", Register Srl) ∷
    (codes "sra", Register Sra) ∷
    (codes "slt", Register Slt) ∷
    (codes "sltu", Register Sltu) ∷
    []

-- a register and a number
unfoldable pub immediate_names : List (List ℕ × Op)
immediate_names =
    (codes "addi", Immediate Addi) ∷
    (codes "xori", Immediate Xori) ∷
    (codes "ori", Immediate Ori) ∷
    (codes "andi", Immediate Andi) ∷
    (codes "slti", Immediate Slti) ∷
    (codes "sltiu", Immediate Sltiu) ∷
    (codes "slli", Shift Slli) ∷
    (codes "srli", Shift Srli) ∷
    (codes "srai", Shift Srai) ∷
    []

-- a label
unfoldable pub branch_names : List (List ℕ × Op)
branch_names =
    (codes "beq", Branch Beq) ∷
    (codes "bne", Branch Bne) ∷
    (codes "blt", Branch Blt) ∷
    (codes "bge", Branch Bge) ∷
    (codes "bltu", Branch Bltu) ∷
    (codes "bgeu", Branch Bgeu) ∷
    (codes "beqz", BranchZero Beq) ∷
    (codes "bnez", BranchZero Bne) ∷
    (codes "jal", Jal) ∷
    (codes "j", J) ∷
    []

-- a form of their own
unfoldable pub single_names : List (List ℕ × Op)
single_names =
    (codes "lui", Lui) ∷
    (codes "li", Li) ∷
    (codes "fence", Fence) ∷
    (codes "fence.tso", FenceTso) ∷
    (codes "fence.i", FenceI) ∷
    (codes "nop", Nop) ∷
    (codes "mv", Mv) ∷
    []

-- an annotated access, with the suffix none
unfoldable pub plain_names : List (List ℕ × Op)
plain_names =
    (codes "lw", Lw plain) ∷
    (codes "sw", Sw plain) ∷
    (codes "lr.w", Lr plain) ∷
    (codes "sc.w", Sc plain) ∷
    (codes "amoswap.w", Amo amo.Swap plain) ∷
    (codes "amoadd.w", Amo amo.Add plain) ∷
    (codes "amoxor.w", Amo amo.Xor plain) ∷
    (codes "amoand.w", Amo amo.And plain) ∷
    (codes "amoor.w", Amo amo.Or plain) ∷
    (codes "amomin.w", Amo amo.Min plain) ∷
    (codes "amomax.w", Amo amo.Max plain) ∷
    (codes "amominu.w", Amo amo.Minu plain) ∷
    (codes "amomaxu.w", Amo amo.Maxu plain) ∷
    []

-- an annotated access, with the suffix .aq
unfoldable pub acquiring_names : List (List ℕ × Op)
acquiring_names =
    (codes "lw.aq", Lw acquiring) ∷
    (codes "sw.aq", Sw acquiring) ∷
    (codes "lr.w.aq", Lr acquiring) ∷
    (codes "sc.w.aq", Sc acquiring) ∷
    (codes "amoswap.w.aq", Amo amo.Swap acquiring) ∷
    (codes "amoadd.w.aq", Amo amo.Add acquiring) ∷
    (codes "amoxor.w.aq", Amo amo.Xor acquiring) ∷
    (codes "amoand.w.aq", Amo amo.And acquiring) ∷
    (codes "amoor.w.aq", Amo amo.Or acquiring) ∷
    (codes "amomin.w.aq", Amo amo.Min acquiring) ∷
    (codes "amomax.w.aq", Amo amo.Max acquiring) ∷
    (codes "amominu.w.aq", Amo amo.Minu acquiring) ∷
    (codes "amomaxu.w.aq", Amo amo.Maxu acquiring) ∷
    []

-- an annotated access, with the suffix .rl
unfoldable pub releasing_names : List (List ℕ × Op)
releasing_names =
    (codes "lw.rl", Lw releasing) ∷
    (codes "sw.rl", Sw releasing) ∷
    (codes "lr.w.rl", Lr releasing) ∷
    (codes "sc.w.rl", Sc releasing) ∷
    (codes "amoswap.w.rl", Amo amo.Swap releasing) ∷
    (codes "amoadd.w.rl", Amo amo.Add releasing) ∷
    (codes "amoxor.w.rl", Amo amo.Xor releasing) ∷
    (codes "amoand.w.rl", Amo amo.And releasing) ∷
    (codes "amoor.w.rl", Amo amo.Or releasing) ∷
    (codes "amomin.w.rl", Amo amo.Min releasing) ∷
    (codes "amomax.w.rl", Amo amo.Max releasing) ∷
    (codes "amominu.w.rl", Amo amo.Minu releasing) ∷
    (codes "amomaxu.w.rl", Amo amo.Maxu releasing) ∷
    []

-- an annotated access, with the suffix .aqrl
unfoldable pub both_names : List (List ℕ × Op)
both_names =
    (codes "lw.aqrl", Lw both) ∷
    (codes "sw.aqrl", Sw both) ∷
    (codes "lr.w.aqrl", Lr both) ∷
    (codes "sc.w.aqrl", Sc both) ∷
    (codes "amoswap.w.aqrl", Amo amo.Swap both) ∷
    (codes "amoadd.w.aqrl", Amo amo.Add both) ∷
    (codes "amoxor.w.aqrl", Amo amo.Xor both) ∷
    (codes "amoand.w.aqrl", Amo amo.And both) ∷
    (codes "amoor.w.aqrl", Amo amo.Or both) ∷
    (codes "amomin.w.aqrl", Amo amo.Min both) ∷
    (codes "amomax.w.aqrl", Amo amo.Max both) ∷
    (codes "amominu.w.aqrl", Amo amo.Minu both) ∷
    (codes "amomaxu.w.aqrl", Amo amo.Maxu both) ∷
    []

-- an annotated access, with the suffix .aq.rl
unfoldable pub both_apart_names : List (List ℕ × Op)
both_apart_names =
    (codes "lw.aq.rl", Lw both) ∷
    (codes "sw.aq.rl", Sw both) ∷
    (codes "lr.w.aq.rl", Lr both) ∷
    (codes "sc.w.aq.rl", Sc both) ∷
    (codes "amoswap.w.aq.rl", Amo amo.Swap both) ∷
    (codes "amoadd.w.aq.rl", Amo amo.Add both) ∷
    (codes "amoxor.w.aq.rl", Amo amo.Xor both) ∷
    (codes "amoand.w.aq.rl", Amo amo.And both) ∷
    (codes "amoor.w.aq.rl", Amo amo.Or both) ∷
    (codes "amomin.w.aq.rl", Amo amo.Min both) ∷
    (codes "amomax.w.aq.rl", Amo amo.Max both) ∷
    (codes "amominu.w.aq.rl", Amo amo.Minu both) ∷
    (codes "amomaxu.w.aq.rl", Amo amo.Maxu both) ∷
    []

-- short for a computation
unfoldable pub short_names : List (List ℕ × Op)
short_names =
    (codes "seqz", Seqz) ∷
    (codes "snez", OfZero Sltu) ∷
    (codes "sltz", WithZero Slt) ∷
    (codes "sgtz", OfZero Slt) ∷
    (codes "neg", OfZero Sub) ∷
    (codes "not", Not) ∷
    (codes "sext.w", Mv) ∷
    []

-- short for a branch
unfoldable pub short_branch_names : List (List ℕ × Op)
short_branch_names =
    (codes "bgt", Swapped Blt) ∷
    (codes "ble", Swapped Bge) ∷
    (codes "bgtu", Swapped Bltu) ∷
    (codes "bleu", Swapped Bgeu) ∷
    (codes "blez", ZeroBranch Bge) ∷
    (codes "bgez", BranchZero Bge) ∷
    (codes "bltz", BranchZero Blt) ∷
    (codes "bgtz", ZeroBranch Blt) ∷
    []

-- of the low 32 bits, which are all that registers hold
unfoldable pub low_names : List (List ℕ × Op)
low_names =
    (codes "addw", Register Add) ∷
    (codes "subw", Register Sub) ∷
    (codes "sllw", Register Sll) ∷
    (codes "srlw", Register Srl) ∷
    (codes "sraw", Register Sra) ∷
    (codes "negw", OfZero Sub) ∷
    (codes "addiw", Immediate Addi) ∷
    (codes "slliw", Shift Slli) ∷
    (codes "srliw", Shift Srli) ∷
    (codes "sraiw", Shift Srai) ∷
    []

-- the row with this name
unfoldable pub op_of : List ℕ → Option Op
op_of word =
    option_or (look_up register_names word) (
    option_or (look_up immediate_names word) (
    option_or (look_up branch_names word) (
    option_or (look_up single_names word) (
    option_or (look_up plain_names word) (
    option_or (look_up acquiring_names word) (
    option_or (look_up releasing_names word) (
    option_or (look_up both_names word) (
    option_or (look_up both_apart_names word) (
    option_or (look_up short_names word) (
    option_or (look_up short_branch_names word) (
    look_up low_names word)))))))))))

-- the names of: two registers
abbrev pub register_text : Op → List ℕ
register_text (Register Add) = codes "add"
register_text (Register Sub) = codes "sub"
register_text (Register Xor) = codes "xor"
register_text (Register Or) = codes "or"
register_text (Register And) = codes "and"
register_text (Register Sll) = codes "sll"
register_text (Register Srl) = codes "srl"
register_text (Register Sra) = codes "sra"
register_text (Register Slt) = codes "slt"
register_text (Register Sltu) = codes "sltu"
register_text _ = []

-- the names of: a register and a number
abbrev pub immediate_text : Op → List ℕ
immediate_text (Immediate Addi) = codes "addi"
immediate_text (Immediate Xori) = codes "xori"
immediate_text (Immediate Ori) = codes "ori"
immediate_text (Immediate Andi) = codes "andi"
immediate_text (Immediate Slti) = codes "slti"
immediate_text (Immediate Sltiu) = codes "sltiu"
immediate_text (Shift Slli) = codes "slli"
immediate_text (Shift Srli) = codes "srli"
immediate_text (Shift Srai) = codes "srai"
immediate_text _ = []

-- the names of: a label
abbrev pub branch_text : Op → List ℕ
branch_text (Branch Beq) = codes "beq"
branch_text (Branch Bne) = codes "bne"
branch_text (Branch Blt) = codes "blt"
branch_text (Branch Bge) = codes "bge"
branch_text (Branch Bltu) = codes "bltu"
branch_text (Branch Bgeu) = codes "bgeu"
branch_text (BranchZero Beq) = codes "beqz"
branch_text (BranchZero Bne) = codes "bnez"
branch_text (Jal) = codes "jal"
branch_text (J) = codes "j"
branch_text _ = []

-- the names of: a form of their own
abbrev pub single_text : Op → List ℕ
single_text (Lui) = codes "lui"
single_text (Li) = codes "li"
single_text (Fence) = codes "fence"
single_text (FenceTso) = codes "fence.tso"
single_text (FenceI) = codes "fence.i"
single_text (Nop) = codes "nop"
single_text (Mv) = codes "mv"
single_text _ = []

-- the names of annotated accesses, without a suffix
abbrev pub amo_text : AmoOp → List ℕ
amo_text amo.Swap = codes "amoswap.w"
amo_text amo.Add = codes "amoadd.w"
amo_text amo.Xor = codes "amoxor.w"
amo_text amo.And = codes "amoand.w"
amo_text amo.Or = codes "amoor.w"
amo_text amo.Min = codes "amomin.w"
amo_text amo.Max = codes "amomax.w"
amo_text amo.Minu = codes "amominu.w"
amo_text amo.Maxu = codes "amomaxu.w"

abbrev pub suffix_text : Bool → Bool → List ℕ
suffix_text false false = []
suffix_text true false = codes ".aq"
suffix_text false true = codes ".rl"
suffix_text true true = codes ".aqrl"

abbrev pub suffix_of : Ann → List ℕ
suffix_of ann = suffix_text ann.acquire ann.release

abbrev pub annotation_of : Op → Option Ann
annotation_of (Lw ann) = Some ann
annotation_of (Sw ann) = Some ann
annotation_of (Lr ann) = Some ann
annotation_of (Sc ann) = Some ann
annotation_of (Amo o ann) = Some ann
annotation_of _ = None

-- the name that prints a row; none for what is short for a computation or a branch, which prints as that
abbrev pub name_text : Op → List ℕ
name_text (Register o) = register_text (Register o)
name_text (Immediate o) = immediate_text (Immediate o)
name_text (Shift o) = immediate_text (Shift o)
name_text (Branch o) = branch_text (Branch o)
name_text (BranchZero o) = branch_text (BranchZero o)
name_text Jal = branch_text Jal
name_text J = branch_text J
name_text (Lw ann) = codes "lw" ++ suffix_of ann
name_text (Sw ann) = codes "sw" ++ suffix_of ann
name_text (Lr ann) = codes "lr.w" ++ suffix_of ann
name_text (Sc ann) = codes "sc.w" ++ suffix_of ann
name_text (Amo o ann) = amo_text o ++ suffix_of ann
name_text FenceAll = codes "fence"
name_text op = single_text op

-- ---- all names

abbrev pub names_of : List (List ℕ × Op) → List (List ℕ)
names_of rows = map (λ row. row.0) rows

abbrev pub all_names : List (List ℕ)
all_names = names_of register_names ++ names_of immediate_names ++ names_of branch_names ++ names_of single_names ++ names_of plain_names ++ names_of acquiring_names ++ names_of releasing_names ++ names_of both_names ++ names_of both_apart_names ++ names_of short_names ++ names_of short_branch_names ++ names_of low_names
