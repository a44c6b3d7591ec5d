-- Which steps make of extended words what they make of the words, extended: what is asked of the words that they read.
use Rattle.std.proofs.Common.{◌≡◌, ◌⊎◌, ℕ, ◌*◌, ◌/◌, ◌%◌, ◌^◌, ◌<◌, nat_lt, bit_and, bit_or, bit_xor, ℤ, pos, ◌+ℤ◌, ◌-ℤ◌, ◌*ℤ◌, Option, Some, None, List, map, FitsSigned, option_map, unwrap_or, is_some, if◌then◌else◌, inl, inr, refl, sym, ap, ◌∙◌, arith}
use Rattle.std.specs.Int.{w32, w64, cast_signed, cast_unsigned, int_shr}
use Rattle.fs_instr.specs.OfTable.{IsImmediate, IsOfTable}
use Rattle.fs_instr.specs.declared.names.RegOp.{RegOp}
use Rattle.fs_instr.specs.declared.names.RegOp.TheVariants as reg
use Rattle.fs_instr.specs.declared.names.ImmOp.{ImmOp}
use Rattle.fs_instr.specs.declared.names.ImmOp.TheVariants as imm
use Rattle.fs_instr.specs.declared.names.ShiftOp.{ShiftOp}
use Rattle.fs_instr.specs.declared.names.ShiftOp.TheVariants as shift
use Rattle.fs_instr.specs.declared.names.AmoOp.{AmoOp}
use Rattle.fs_instr.specs.declared.names.AmoOp.TheVariants as amo
use Rattle.fs_instr.specs.declared.instr.Instr.{Instr}
use Rattle.fs_instr.specs.declared.instr.Instr.TheVariants.{Register, Immediate, Shift, Lui, Li, Lw, Sw, Lr, Sc, Amo, Branch, Jump, Fence, FenceTso, FenceI}
use Rattle.fs_model.specs.declared.hart.Hart.{Hart}
use Rattle.fs_model.specs.declared.step.Step.{Step}
use Rattle.fs_model.specs.Instructions as words
use Rattle.fs_model.specs.Instructions.{read, flag}
use Rattle.fs_app_plain.specs.Instructions64.{extended, doubleword_of, is_less_signed, shift_left, shift_right, shift_right_signed, computed, computed_with, shifted, combined, result_in, stored_in}
use Rattle.fs_app_plain.specs.Wide.{IsExact}
use Rattle.fs_app_plain.proofs.Given.{AreWords, FitsIfThere}
use Rattle.fs_app_plain.proofs.WordsExtended.{extended_min, extended_max, extended_word_of, immediate_fits, word_of_fits}
use Rattle.fs_app_plain.proofs.WordsMade.{read_word, loaded_word}
use Rattle.fs_app_plain.proofs.WordsLaws.{read_extended}
use Rattle.fs_app_plain.proofs.WordsExact.{and_exact, or_exact, xor_exact, less_signed_exact, less_exact, min_signed_exact, max_signed_exact, add_exact, sub_exact, add_immediate_exact, extended_amount, shift_left_exact, shift_right_exact, shift_right_none_exact, shift_right_signed_exact}

-- ---- what is asked

abbrev pub FitsSum : ℕ → ℕ → Type 0
FitsSum a b = FitsSigned w32 (cast_signed w32 a +ℤ cast_signed w32 b)

abbrev pub FitsDifference : ℕ → ℕ → Type 0
FitsDifference a b = FitsSigned w32 (cast_signed w32 a -ℤ cast_signed w32 b)

-- the word, moved to the left by the low 6 bits of the second, is one of 32 bits
abbrev pub FitsLeft : ℕ → ℕ → Type 0
FitsLeft a b = (b % 64 < 32) × FitsSigned w32 (cast_signed w32 a *ℤ pos (2 ^ (b % 64)))

-- the same to the right with zeros
abbrev pub FitsRight : ℕ → ℕ → Type 0
FitsRight a b = (b % 64 ≡ 0) ⊎ ((b % 64 < 32) × (a < 2 ^ 31))

abbrev pub FitsRegister : RegOp → ℕ → ℕ → Type 0
FitsRegister reg.Add a b = FitsSum a b
FitsRegister reg.Sub a b = FitsDifference a b
FitsRegister reg.Sll a b = FitsLeft a b
FitsRegister reg.Srl a b = FitsRight a b
FitsRegister reg.Sra a b = b % 64 < 32
FitsRegister _ a b = Unit {0}

abbrev pub FitsShift : ShiftOp → ℕ → ℕ → Type 0
FitsShift shift.Slli a n = FitsLeft a n
FitsShift shift.Srli a n = FitsRight a n
FitsShift shift.Srai a n = Unit {0}

abbrev pub FitsImmediate : ImmOp → ℕ → ℤ → Type 0
FitsImmediate imm.Addi a z = FitsSigned w32 (cast_signed w32 a +ℤ z)
FitsImmediate _ a z = Unit {0}

abbrev pub FitsAmo : AmoOp → ℕ → ℕ → Type 0
FitsAmo amo.Add a b = FitsSum a b
FitsAmo _ a b = Unit {0}

-- of an instruction, by the registers and the word that it loads
abbrev pub FitsInstr : List ℕ → (loaded : Option ℕ) → Instr → Type 0
FitsInstr x loaded (Register o rd a b) = FitsRegister o (read x a) (read x b)
FitsInstr x loaded (Immediate o rd a z) = FitsImmediate o (read x a) z
FitsInstr x loaded (Shift o rd a n) = FitsShift o (read x a) n
FitsInstr x loaded (Amo o ann rd v a) = FitsAmo o (unwrap_or loaded 0) (read x v)
FitsInstr x loaded _ = Unit {0}

-- ---- operations

left_exact : (a b : ℕ) → a < 2 ^ 32 → b < 2 ^ 32 → FitsLeft a b
    → shift_left (extended a) (extended b) ≡ extended (words.shift_left a b)
left_exact a b p q f =
    ap (λ k. (extended a * 2 ^ k) % 2 ^ 64) (extended_amount b q) ∙ shift_left_exact a b p f.0 f.1

any_right_exact : (a b : ℕ) → FitsRight a b → shift_right (extended a) b ≡ extended (words.shift_right a b)
any_right_exact a b (inl none) = shift_right_none_exact a b none
any_right_exact a b (inr f) = shift_right_exact a b f.1 f.0

right_exact : (a b : ℕ) → b < 2 ^ 32 → FitsRight a b
    → shift_right (extended a) (extended b) ≡ extended (words.shift_right a b)
right_exact a b q f = ap (λ k. extended a / 2 ^ k) (extended_amount b q) ∙ any_right_exact a b f

right_signed_exact : (a b : ℕ) → b < 2 ^ 32 → b % 64 < 32
    → shift_right_signed (extended a) (extended b) ≡ extended (words.shift_right_signed a b)
right_signed_exact a b q h =
    ap (λ k. cast_unsigned w64 (int_shr (cast_signed w64 (extended a)) k)) (extended_amount b q)
    ∙ shift_right_signed_exact a b h

pub computed_exact : (o : RegOp) (a b : ℕ) → a < 2 ^ 32 → b < 2 ^ 32 → FitsRegister o a b
    → computed o (extended a) (extended b) ≡ extended (words.computed o a b)
computed_exact reg.Add a b p q f = add_exact a b p q f
computed_exact reg.Sub a b p q f = sub_exact a b p q f
computed_exact reg.Xor a b p q f = xor_exact a b p q
computed_exact reg.Or a b p q f = or_exact a b p q
computed_exact reg.And a b p q f = and_exact a b p q
computed_exact reg.Sll a b p q f = left_exact a b p q f
computed_exact reg.Srl a b p q f = right_exact a b q f
computed_exact reg.Sra a b p q f = right_signed_exact a b q f
computed_exact reg.Slt a b p q f = less_signed_exact a b
computed_exact reg.Sltu a b p q f = less_exact a b p q

-- what takes the immediate as a word
module _ (f : ℕ → ℕ → ℕ) (a r : ℕ) (z : ℤ) (s : IsImmediate z) where
  of_word : f (extended a) (extended (words.word_of z)) ≡ r → f (extended a) (doubleword_of z) ≡ r
  of_word e = ap (f (extended a)) (sym (extended_word_of z s)) ∙ e

immediate_word : (z : ℤ) → IsImmediate z → words.word_of z < 2 ^ 32
immediate_word z s = word_of_fits z (immediate_fits z s)

pub computed_with_exact : (o : ImmOp) (a : ℕ) (z : ℤ) → a < 2 ^ 32 → IsImmediate z → FitsImmediate o a z
    → computed_with o (extended a) (doubleword_of z) ≡ extended (words.computed_with o a (words.word_of z))
computed_with_exact imm.Addi a z p s f = add_immediate_exact a z p s f
computed_with_exact imm.Xori a z p s f = of_word bit_xor a _ z s (xor_exact a (words.word_of z) p (immediate_word z s))
computed_with_exact imm.Ori a z p s f = of_word bit_or a _ z s (or_exact a (words.word_of z) p (immediate_word z s))
computed_with_exact imm.Andi a z p s f = of_word bit_and a _ z s (and_exact a (words.word_of z) p (immediate_word z s))
computed_with_exact imm.Slti a z p s f =
    of_word (λ v u. flag (is_less_signed v u)) a _ z s (less_signed_exact a (words.word_of z))
computed_with_exact imm.Sltiu a z p s f =
    of_word (λ v u. flag (nat_lt v u)) a _ z s (less_exact a (words.word_of z) p (immediate_word z s))

pub shifted_exact : (o : ShiftOp) (a n : ℕ) → a < 2 ^ 32 → n < 32 → FitsShift o a n
    → shifted o (extended a) n ≡ extended (words.shifted o a n)
shifted_exact shift.Slli a n p s f = shift_left_exact a n p f.0 f.1
shifted_exact shift.Srli a n p s f = any_right_exact a n f
shifted_exact shift.Srai a n p s f = shift_right_signed_exact a n (omega (arith, s))

pub combined_exact : (o : AmoOp) (a b : ℕ) → a < 2 ^ 32 → b < 2 ^ 32 → FitsAmo o a b
    → combined o (extended a) (extended b) ≡ extended (words.combined o a b)
combined_exact amo.Swap a b p q f = refl
combined_exact amo.Add a b p q f = add_exact a b p q f
combined_exact amo.Xor a b p q f = xor_exact a b p q
combined_exact amo.And a b p q f = and_exact a b p q
combined_exact amo.Or a b p q f = or_exact a b p q
combined_exact amo.Min a b p q f = min_signed_exact a b
combined_exact amo.Max a b p q f = max_signed_exact a b
combined_exact amo.Minu a b p q f = extended_min a b p q
combined_exact amo.Maxu a b p q f = extended_max a b p q

-- ---- steps

loaded_exact : (loaded : Option ℕ) → extended (unwrap_or loaded 0) ≡ unwrap_or (option_map extended loaded) 0
loaded_exact None = refl
loaded_exact (Some w) = refl

success_exact : (stored : Option ℕ)
    → extended (if is_some stored then 0 else 1) ≡ (if is_some (option_map extended stored) then 0 else 1)
success_exact None = refl
success_exact (Some w) = refl

pub result_exact : (x : List ℕ) (loaded stored : Option ℕ) (i : Instr) → AreWords x → IsOfTable i → FitsInstr x loaded i
    → extended (words.result_in x loaded stored i)
    ≡ result_in (map extended x) (option_map extended loaded) (option_map extended stored) i
result_exact x loaded stored (Register o rd a b) w t f = sym (
    ap (λ v. computed o v (read (map extended x) b)) (read_extended x a)
    ∙ ap (computed o (extended (read x a))) (read_extended x b)
    ∙ computed_exact o (read x a) (read x b) (read_word x a w) (read_word x b w) f)
result_exact x loaded stored (Immediate o rd a z) w t f = sym (
    ap (λ v. computed_with o v (doubleword_of z)) (read_extended x a)
    ∙ computed_with_exact o (read x a) z (read_word x a w) t.2 f)
result_exact x loaded stored (Shift o rd a n) w t f = sym (
    ap (λ v. shifted o v n) (read_extended x a)
    ∙ shifted_exact o (read x a) n (read_word x a w) t.2 f)
result_exact x loaded stored (Lui rd n) w t f = refl
result_exact x loaded stored (Li rd n) w t f = refl
result_exact x loaded stored (Lw ann rd a z) w t f = loaded_exact loaded
result_exact x loaded stored (Sw ann v a z) w t f = refl
result_exact x loaded stored (Lr ann rd a) w t f = loaded_exact loaded
result_exact x loaded stored (Sc ann rd v a) w t f = success_exact stored
result_exact x loaded stored (Amo o ann rd v a) w t f = loaded_exact loaded
result_exact x loaded stored (Branch o a b target) w t f = refl
result_exact x loaded stored (Jump target) w t f = refl
result_exact x loaded stored (Fence before after) w t f = refl
result_exact x loaded stored FenceTso w t f = refl
result_exact x loaded stored FenceI w t f = refl

pub stored_exact : (x : List ℕ) (loaded : Option ℕ) (i : Instr) → AreWords x → FitsIfThere loaded → FitsInstr x loaded i
    → option_map extended (words.stored_in x loaded i) ≡ stored_in (map extended x) (option_map extended loaded) i
stored_exact x loaded (Register o rd a b) w l f = refl
stored_exact x loaded (Immediate o rd a z) w l f = refl
stored_exact x loaded (Shift o rd a n) w l f = refl
stored_exact x loaded (Lui rd n) w l f = refl
stored_exact x loaded (Li rd n) w l f = refl
stored_exact x loaded (Lw ann rd a z) w l f = refl
stored_exact x loaded (Sw ann v a z) w l f = ap (λ d. Some d) (sym (read_extended x v))
stored_exact x loaded (Lr ann rd a) w l f = refl
stored_exact x loaded (Sc ann rd v a) w l f = ap (λ d. Some d) (sym (read_extended x v))
stored_exact x loaded (Amo o ann rd v a) w l f = ap (λ d. Some d) (sym (
    ap (λ d. combined o d (read (map extended x) v)) (sym (loaded_exact loaded))
    ∙ ap (combined o (extended (unwrap_or loaded 0))) (read_extended x v)
    ∙ combined_exact o (unwrap_or loaded 0) (read x v) (loaded_word loaded l) (read_word x v w) f))
stored_exact x loaded (Branch o a b target) w l f = refl
stored_exact x loaded (Jump target) w l f = refl
stored_exact x loaded (Fence before after) w l f = refl
stored_exact x loaded FenceTso w l f = refl
stored_exact x loaded FenceI w l f = refl

pub step_exact : (h : Hart) (s : Step) → AreWords h.registers → IsOfTable s.instr → FitsIfThere s.loaded
    → FitsInstr h.registers s.loaded s.instr → IsExact h s
step_exact h s w t l f = record {
  result = result_exact h.registers s.loaded s.stored s.instr w t f;
  stored = stored_exact h.registers s.loaded s.instr w l f;
}
