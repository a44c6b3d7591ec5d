-- What instructions make of words are words again.
use Rattle.std.proofs.Common.{ℕ, ◌+◌, ◌-◌, ◌*◌, ◌%◌, ◌^◌, ◌<◌, nat_lt, ℤ, pos, negsuc, Bool, true, false, Option, Some, None, List, length, bit_and, bit_or, bit_xor, FitsSigned, if◌then◌else◌, unwrap_or, is_some, inl, inr, sym, subst, arith}
use Rattle.std.specs.Int.{w32, cast_signed, int_shr}
use Rattle.std.proofs.lemmas.Bool.{cases_lt}
use Rattle.std.proofs.lemmas.Nat.{and_le_l, or_lt, xor_lt, shr_le}
use Rattle.std.proofs.lemmas.List.{get_or_past}
use Rattle.std.proofs.lemmas.List.Elements.{All-get_or}
use Rattle.fs_instr.specs.OfTable.{IsOfTable}
use Rattle.fs_instr.specs.declared.names.RegOp.{RegOp}
use Rattle.fs_instr.specs.declared.names.RegOp.TheVariants as reg
use Rattle.fs_instr.specs.declared.names.ImmOp.{ImmOp}
use Rattle.fs_instr.specs.declared.names.ImmOp.TheVariants as imm
use Rattle.fs_instr.specs.declared.names.ShiftOp.{ShiftOp}
use Rattle.fs_instr.specs.declared.names.ShiftOp.TheVariants as shift
use Rattle.fs_instr.specs.declared.names.AmoOp.{AmoOp}
use Rattle.fs_instr.specs.declared.names.AmoOp.TheVariants as amo
use Rattle.fs_instr.specs.declared.instr.Instr.{Instr}
use Rattle.fs_instr.specs.declared.instr.Instr.TheVariants.{Register, Immediate, Shift, Lui, Li, Lw, Sw, Lr, Sc, Amo, Branch, Jump, Fence, FenceTso, FenceI}
use Rattle.fs_model.specs.Instructions.{read, flag, word_of, shift_right, shift_right_signed, is_less_signed, computed, computed_with, shifted, combined, result_in, stored_in}
use Rattle.fs_app_plain.proofs.Given.{AreWords, FitsIfThere}
use Rattle.fs_app_plain.proofs.WordsExtended.{signed_fits, immediate_fits, word_of_fits}

-- ---- operations

remainder_word : (n : ℕ) → n % 2 ^ 32 < 2 ^ 32
remainder_word n = omega arith

pub flag_word : (c : Bool) → flag c < 2 ^ 32
flag_word true = omega arith
flag_word false = omega arith

either_word : (c : Bool) (a b : ℕ) → a < 2 ^ 32 → b < 2 ^ 32 → (if c then b else a) < 2 ^ 32
either_word true a b p q = q
either_word false a b p q = p

pub shifted_fits : (z : ℤ) (n : ℕ) → FitsSigned w32 z → FitsSigned w32 (int_shr z n)
shifted_fits (pos m) n f = record { sfits = (let h = f.sfits in omega (arith, h, shr_le m n)) }
shifted_fits (negsuc m) n f = record { sfits = (let h = f.sfits in omega (arith, h, shr_le m n)) }

pub shift_right_word : (a b : ℕ) → a < 2 ^ 32 → shift_right a b < 2 ^ 32
shift_right_word a b p = omega (arith, p, shr_le a (b % 32))

pub shift_right_signed_word : (a b : ℕ) → shift_right_signed a b < 2 ^ 32
shift_right_signed_word a b =
    word_of_fits (int_shr (cast_signed w32 a) (b % 32)) (shifted_fits (cast_signed w32 a) (b % 32) (signed_fits a))

pub and_word : (a b : ℕ) → a < 2 ^ 32 → bit_and a b < 2 ^ 32
and_word a b p = omega (arith, p, and_le_l a b)

pub or_word : (a b : ℕ) → a < 2 ^ 32 → b < 2 ^ 32 → bit_or a b < 2 ^ 32
or_word a b p q = or_lt 32 a b p q

pub xor_word : (a b : ℕ) → a < 2 ^ 32 → b < 2 ^ 32 → bit_xor a b < 2 ^ 32
xor_word a b p q = xor_lt 32 a b p q

pub computed_word : (o : RegOp) (a b : ℕ) → a < 2 ^ 32 → b < 2 ^ 32 → computed o a b < 2 ^ 32
computed_word reg.Add a b p q = remainder_word (a + b)
computed_word reg.Sub a b p q = remainder_word (a + (2 ^ 32 - b))
computed_word reg.Xor a b p q = xor_word a b p q
computed_word reg.Or a b p q = or_word a b p q
computed_word reg.And a b p q = and_word a b p
computed_word reg.Sll a b p q = remainder_word (a * 2 ^ (b % 32))
computed_word reg.Srl a b p q = shift_right_word a b p
computed_word reg.Sra a b p q = shift_right_signed_word a b
computed_word reg.Slt a b p q = flag_word (is_less_signed a b)
computed_word reg.Sltu a b p q = flag_word (nat_lt a b)

pub computed_with_word : (o : ImmOp) (a b : ℕ) → a < 2 ^ 32 → b < 2 ^ 32 → computed_with o a b < 2 ^ 32
computed_with_word imm.Addi a b p q = remainder_word (a + b)
computed_with_word imm.Xori a b p q = xor_word a b p q
computed_with_word imm.Ori a b p q = or_word a b p q
computed_with_word imm.Andi a b p q = and_word a b p
computed_with_word imm.Slti a b p q = flag_word (is_less_signed a b)
computed_with_word imm.Sltiu a b p q = flag_word (nat_lt a b)

pub shifted_word : (o : ShiftOp) (a n : ℕ) → a < 2 ^ 32 → shifted o a n < 2 ^ 32
shifted_word shift.Slli a n p = remainder_word (a * 2 ^ (n % 32))
shifted_word shift.Srli a n p = shift_right_word a n p
shifted_word shift.Srai a n p = shift_right_signed_word a n

pub combined_word : (o : AmoOp) (a b : ℕ) → a < 2 ^ 32 → b < 2 ^ 32 → combined o a b < 2 ^ 32
combined_word amo.Swap a b p q = q
combined_word amo.Add a b p q = remainder_word (a + b)
combined_word amo.Xor a b p q = xor_word a b p q
combined_word amo.And a b p q = and_word a b p
combined_word amo.Or a b p q = or_word a b p q
combined_word amo.Min a b p q = either_word (is_less_signed b a) a b p q
combined_word amo.Max a b p q = either_word (is_less_signed a b) a b p q
combined_word amo.Minu a b p q = omega (arith, p, q)
combined_word amo.Maxu a b p q = omega (arith, p, q)

-- ---- instructions

pub read_word : (x : List ℕ) (r : ℕ) → AreWords x → read x r < 2 ^ 32
read_word x r all = elim (cases_lt r (length x)) [
  | inl inside ↦ All-get_or (λ w. w < 2 ^ 32) x r 0 inside all
  | inr past ↦ subst (λ w. w < 2 ^ 32) (sym (get_or_past x r 0 past)) (omega arith)
]

pub loaded_word : (loaded : Option ℕ) → FitsIfThere loaded → unwrap_or loaded 0 < 2 ^ 32
loaded_word None f = omega arith
loaded_word (Some w) f = f

success_word : (c : Bool) → (if c then 0 else 1) < 2 ^ 32
success_word true = omega arith
success_word false = omega arith

pub result_word : (x : List ℕ) (loaded stored : Option ℕ) (i : Instr) → AreWords x → IsOfTable i → FitsIfThere loaded
    → result_in x loaded stored i < 2 ^ 32
result_word x loaded stored (Register o rd a b) w t f =
    computed_word o (read x a) (read x b) (read_word x a w) (read_word x b w)
result_word x loaded stored (Immediate o rd a z) w t f =
    computed_with_word o (read x a) (word_of z) (read_word x a w) (word_of_fits z (immediate_fits z t.2))
result_word x loaded stored (Shift o rd a n) w t f = shifted_word o (read x a) n (read_word x a w)
result_word x loaded stored (Lui rd n) w t f = remainder_word (n * 2 ^ 12)
result_word x loaded stored (Li rd n) w t f = t.1
result_word x loaded stored (Lw ann rd a z) w t f = loaded_word loaded f
result_word x loaded stored (Sw ann v a z) w t f = omega arith
result_word x loaded stored (Lr ann rd a) w t f = loaded_word loaded f
result_word x loaded stored (Sc ann rd v a) w t f = success_word (is_some stored)
result_word x loaded stored (Amo o ann rd v a) w t f = loaded_word loaded f
result_word x loaded stored (Branch o a b target) w t f = omega arith
result_word x loaded stored (Jump target) w t f = omega arith
result_word x loaded stored (Fence before after) w t f = omega arith
result_word x loaded stored FenceTso w t f = omega arith
result_word x loaded stored FenceI w t f = omega arith

pub stored_word : (x : List ℕ) (loaded : Option ℕ) (i : Instr) → AreWords x → FitsIfThere loaded
    → FitsIfThere (stored_in x loaded i)
stored_word x loaded (Register o rd a b) w f = tt
stored_word x loaded (Immediate o rd a z) w f = tt
stored_word x loaded (Shift o rd a n) w f = tt
stored_word x loaded (Lui rd n) w f = tt
stored_word x loaded (Li rd n) w f = tt
stored_word x loaded (Lw ann rd a z) w f = tt
stored_word x loaded (Sw ann v a z) w f = read_word x v w
stored_word x loaded (Lr ann rd a) w f = tt
stored_word x loaded (Sc ann rd v a) w f = read_word x v w
stored_word x loaded (Amo o ann rd v a) w f =
    combined_word o (unwrap_or loaded 0) (read x v) (loaded_word loaded f) (read_word x v w)
stored_word x loaded (Branch o a b target) w f = tt
stored_word x loaded (Jump target) w f = tt
stored_word x loaded (Fence before after) w f = tt
stored_word x loaded FenceTso w f = tt
stored_word x loaded FenceI w f = tt
