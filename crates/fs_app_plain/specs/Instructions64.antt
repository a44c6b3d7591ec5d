-- What instructions do on registers of 64 bits (RISC-V Unprivileged ISA 20191213, chapters "RV64I Base Integer
-- Instruction Set" and "“A” Standard Extension for Atomic Instructions"): as `Instructions` of fs_model has it for 32,
-- where lw, sw, lr.w, sc.w and the AMOs stand for ld, sd, lr.d, sc.d and their like. A doubleword is a number below 2^64.
use Rattle.std.specs.Prelude.{ℕ, ℤ, ◌+◌, ◌-◌, ◌*◌, ◌/◌, ◌%◌, ◌^◌, ◌==◌, nat_lt, int_lt, min, max, not, Bool, bit_and, bit_or, bit_xor, Option, None, Some, is_some, unwrap_or, List, if◌then◌else◌}
use Rattle.std.specs.Int.{w32, w64, cast_signed, cast_unsigned, int_shr}
use Rattle.fs_instr.specs.declared.names.RegOp.{RegOp}
use Rattle.fs_instr.specs.declared.names.RegOp.TheVariants as reg
use Rattle.fs_instr.specs.declared.names.ImmOp.{ImmOp}
use Rattle.fs_instr.specs.declared.names.ImmOp.TheVariants as imm
use Rattle.fs_instr.specs.declared.names.ShiftOp.{ShiftOp}
use Rattle.fs_instr.specs.declared.names.ShiftOp.TheVariants as shift
use Rattle.fs_instr.specs.declared.names.AmoOp.{AmoOp}
use Rattle.fs_instr.specs.declared.names.AmoOp.TheVariants as amo
use Rattle.fs_instr.specs.declared.names.BranchOp.{BranchOp}
use Rattle.fs_instr.specs.declared.names.BranchOp.TheVariants as branch
use Rattle.fs_instr.specs.declared.instr.Instr.{Instr}
use Rattle.fs_instr.specs.declared.instr.Instr.TheVariants.{Register, Immediate, Shift, Lui, Li, Lw, Sw, Lr, Sc, Amo, Branch, Jump}
use Rattle.fs_model.specs.Instructions as words
use Rattle.fs_model.specs.Instructions.{read, flag}

-- ---- doublewords

-- the doubleword of a word, extended by its sign
abbrev pub extended : ℕ → ℕ
extended word = cast_unsigned w64 (cast_signed w32 word)

-- the doubleword of a number with a sign, as a sign-extended immediate
abbrev pub doubleword_of : ℤ → ℕ
doubleword_of n = cast_unsigned w64 n

abbrev pub add : ℕ → ℕ → ℕ
add a b = (a + b) % 2 ^ 64

abbrev pub sub : ℕ → ℕ → ℕ
sub a b = (a + (2 ^ 64 - b)) % 2 ^ 64

-- shifts go by the low 6 bits of b
abbrev pub shift_left : ℕ → ℕ → ℕ
shift_left a b = (a * 2 ^ (b % 64)) % 2 ^ 64

abbrev pub shift_right : ℕ → ℕ → ℕ
shift_right a b = a / 2 ^ (b % 64)

abbrev pub shift_right_signed : ℕ → ℕ → ℕ
shift_right_signed a b = cast_unsigned w64 (int_shr (cast_signed w64 a) (b % 64))

abbrev pub is_less_signed : ℕ → ℕ → Bool
is_less_signed a b = int_lt (cast_signed w64 a) (cast_signed w64 b)

abbrev pub min_signed : ℕ → ℕ → ℕ
min_signed a b = if is_less_signed b a then b else a

abbrev pub max_signed : ℕ → ℕ → ℕ
max_signed a b = if is_less_signed a b then b else a

-- ---- what instructions compute

abbrev pub computed : RegOp → ℕ → ℕ → ℕ
computed reg.Add a b = add a b
computed reg.Sub a b = sub a b
computed reg.Xor a b = bit_xor a b
computed reg.Or a b = bit_or a b
computed reg.And a b = bit_and a b
computed reg.Sll a b = shift_left a b
computed reg.Srl a b = shift_right a b
computed reg.Sra a b = shift_right_signed a b
computed reg.Slt a b = flag (is_less_signed a b)
computed reg.Sltu a b = flag (nat_lt a b)

abbrev pub computed_with : ImmOp → ℕ → ℕ → ℕ
computed_with imm.Addi a b = add a b
computed_with imm.Xori a b = bit_xor a b
computed_with imm.Ori a b = bit_or a b
computed_with imm.Andi a b = bit_and a b
computed_with imm.Slti a b = flag (is_less_signed a b)
computed_with imm.Sltiu a b = flag (nat_lt a b)

abbrev pub shifted : ShiftOp → ℕ → ℕ → ℕ
shifted shift.Slli a b = shift_left a b
shifted shift.Srli a b = shift_right a b
shifted shift.Srai a b = shift_right_signed a b

abbrev pub combined : AmoOp → ℕ → ℕ → ℕ
combined amo.Swap a b = b
combined amo.Add a b = add a b
combined amo.Xor a b = bit_xor a b
combined amo.And a b = bit_and a b
combined amo.Or a b = bit_or a b
combined amo.Min a b = min_signed a b
combined amo.Max a b = max_signed a b
combined amo.Minu a b = min a b
combined amo.Maxu a b = max a b

abbrev pub does_branch : BranchOp → ℕ → ℕ → Bool
does_branch branch.Beq a b = a == b
does_branch branch.Bne a b = not (a == b)
does_branch branch.Blt a b = is_less_signed a b
does_branch branch.Bge a b = not (is_less_signed a b)
does_branch branch.Bltu a b = nat_lt a b
does_branch branch.Bgeu a b = not (nat_lt a b)

abbrev pub address_in : List ℕ → Instr → Option ℕ
address_in x (Lw ann rd base offset) = Some (add (read x base) (doubleword_of offset))
address_in x (Sw ann value base offset) = Some (add (read x base) (doubleword_of offset))
address_in x (Lr ann rd base) = Some (read x base)
address_in x (Sc ann rd value base) = Some (read x base)
address_in x (Amo op ann rd value base) = Some (read x base)
address_in x _ = None

abbrev pub stored_in : List ℕ → (loaded : Option ℕ) → Instr → Option ℕ
stored_in x loaded (Sw ann value base offset) = Some (read x value)
stored_in x loaded (Sc ann rd value base) = Some (read x value)
stored_in x loaded (Amo op ann rd value base) = Some (combined op (unwrap_or loaded 0) (read x value))
stored_in x loaded _ = None

-- lui and li make a word, which is extended by its sign
abbrev pub result_in : List ℕ → (loaded stored : Option ℕ) → Instr → ℕ
result_in x loaded stored (Register op rd first second) = computed op (read x first) (read x second)
result_in x loaded stored (Immediate op rd first immediate) = computed_with op (read x first) (doubleword_of immediate)
result_in x loaded stored (Shift op rd first amount) = shifted op (read x first) amount
result_in x loaded stored (Lui rd upper) = extended (words.shift_left upper 12)
result_in x loaded stored (Li rd word) = extended word
result_in x loaded stored (Lw ann rd base offset) = unwrap_or loaded 0
result_in x loaded stored (Lr ann rd base) = unwrap_or loaded 0
result_in x loaded stored (Amo op ann rd value base) = unwrap_or loaded 0
result_in x loaded stored (Sc ann rd value base) = if is_some stored then 0 else 1
result_in x loaded stored _ = 0

abbrev pub next_after : List ℕ → (at : ℕ) → Instr → ℕ
next_after x at (Branch op first second target) = if does_branch op (read x first) (read x second) then target else at + 1
next_after x at (Jump target) = target
next_after x at _ = at + 1
