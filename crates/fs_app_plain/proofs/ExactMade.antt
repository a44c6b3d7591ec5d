-- What instructions make of words that is exact, by operations.
use Rattle.std.proofs.Common.{◌≡◌, ◌≢◌, ℕ, ◌*◌, ◌%◌, ◌^◌, ◌<◌, ℤ, pos, negsuc, ◌+ℤ◌, ◌*ℤ◌, nat_lt, bit_and, bit_or, bit_xor, FitsSigned, refl, sym, ap, subst, ◌∙◌, arith}
use Rattle.std.specs.Int.{w32, w64, cast_signed, cast_unsigned, saturate_signed}
use Rattle.std.proofs.lemmas.Int.{to_z-of_z, to_z_pos}
use Rattle.std.proofs.lemmas.Nat.{one_shl, pow_below}
use Rattle.fs_instr.specs.declared.names.RegOp.{RegOp}
use Rattle.fs_instr.specs.declared.names.RegOp.TheVariants as reg
use Rattle.fs_instr.specs.declared.names.ImmOp.{ImmOp}
use Rattle.fs_instr.specs.declared.names.ImmOp.TheVariants as imm
use Rattle.fs_instr.specs.declared.names.ShiftOp.TheVariants as shift
use Rattle.fs_instr.specs.declared.names.AmoOp.{AmoOp}
use Rattle.fs_instr.specs.declared.names.AmoOp.TheVariants as amo
use Rattle.fs_model.specs.Instructions as words
use Rattle.fs_model.specs.Instructions.{flag}
use Rattle.fs_app_plain.specs.Instructions64.{extended, doubleword_of, add, is_less_signed}
use Rattle.fs_app_plain.proofs.WordsExtended.{extended_of, extended_min, extended_max, word_of_fits, fits_wide, signed_fits}
use Rattle.fs_app_plain.proofs.WordsExact.{and_exact, or_exact, xor_exact, less_exact, less_signed_exact, min_signed_exact, max_signed_exact, add_exact, shift_left_exact}
use Rattle.fs_app_plain.specs.Exact.{IsExactComputed, IsExactImmediate, IsExactShifted, IsExactCombined}

-- all of two registers but sums, differences and shifts
pub computed_exact : (op : RegOp) (a b : ℕ) → a < 2 ^ 32 → b < 2 ^ 32
    → op ≢ reg.Add → op ≢ reg.Sub → op ≢ reg.Sll → op ≢ reg.Srl → op ≢ reg.Sra → IsExactComputed op a b
computed_exact reg.Add a b p q add sub sll srl sra = absurd (add refl)
computed_exact reg.Sub a b p q add sub sll srl sra = absurd (sub refl)
computed_exact reg.Xor a b p q add sub sll srl sra = sym (xor_exact a b p q)
computed_exact reg.Or a b p q add sub sll srl sra = sym (or_exact a b p q)
computed_exact reg.And a b p q add sub sll srl sra = sym (and_exact a b p q)
computed_exact reg.Sll a b p q add sub sll srl sra = absurd (sll refl)
computed_exact reg.Srl a b p q add sub sll srl sra = absurd (srl refl)
computed_exact reg.Sra a b p q add sub sll srl sra = absurd (sra refl)
computed_exact reg.Slt a b p q add sub sll srl sra = sym (less_signed_exact a b)
computed_exact reg.Sltu a b p q add sub sll srl sra = sym (less_exact a b p q)

-- what is exact of two words is so of a word and an immediate
of_immediate : (f g : ℕ → ℕ → ℕ) (a : ℕ) (n : ℤ) → FitsSigned w32 n
    → f (extended a) (extended (words.word_of n)) ≡ extended (g a (words.word_of n))
    → extended (g a (words.word_of n)) ≡ f (extended a) (doubleword_of n)
of_immediate f g a n fits exact = sym exact ∙ ap (f (extended a)) (extended_of n fits)

-- all of an immediate but sums
pub immediate_exact : (op : ImmOp) (a : ℕ) (n : ℤ) → a < 2 ^ 32 → FitsSigned w32 n → op ≢ imm.Addi
    → IsExactImmediate op a n
immediate_exact imm.Addi a n p fits addi = absurd (addi refl)
immediate_exact imm.Xori a n p fits addi =
    of_immediate bit_xor bit_xor a n fits (xor_exact a (words.word_of n) p (word_of_fits n fits))
immediate_exact imm.Ori a n p fits addi =
    of_immediate bit_or bit_or a n fits (or_exact a (words.word_of n) p (word_of_fits n fits))
immediate_exact imm.Andi a n p fits addi =
    of_immediate bit_and bit_and a n fits (and_exact a (words.word_of n) p (word_of_fits n fits))
immediate_exact imm.Slti a n p fits addi =
    of_immediate (λ b c. flag (is_less_signed b c)) (λ b c. flag (words.is_less_signed b c)) a n fits
    (less_signed_exact a (words.word_of n))
immediate_exact imm.Sltiu a n p fits addi =
    of_immediate (λ b c. flag (nat_lt b c)) (λ b c. flag (nat_lt b c)) a n fits
    (less_exact a (words.word_of n) p (word_of_fits n fits))

-- b is the word of the immediate
pub sum_immediate_exact : (op : ImmOp) (a : ℕ) (n : ℤ) (b : ℕ) → op ≡ imm.Addi → a < 2 ^ 32 → FitsSigned w32 n
    → b ≡ cast_unsigned w32 (cast_signed w32 (words.word_of n))
    → FitsSigned w32 (cast_signed w32 a +ℤ cast_signed w32 b) → IsExactImmediate op a n
sum_immediate_exact op a n b e p fits same sum =
    let word = same ∙ ap (cast_unsigned w32) (to_z-of_z w32 n fits) in
    let f = subst (λ w. FitsSigned w32 (cast_signed w32 a +ℤ cast_signed w32 w)) word sum in
    let exact = of_immediate add words.add a n fits (add_exact a (words.word_of n) p (word_of_fits n fits) f) in
    subst (λ o. IsExactImmediate o a n) (sym e) exact

-- all of an AMO but sums
pub combined_exact : (op : AmoOp) (a b : ℕ) → a < 2 ^ 32 → b < 2 ^ 32 → op ≢ amo.Add → IsExactCombined op a b
combined_exact amo.Swap a b p q sum = refl
combined_exact amo.Add a b p q sum = absurd (sum refl)
combined_exact amo.Xor a b p q sum = sym (xor_exact a b p q)
combined_exact amo.And a b p q sum = sym (and_exact a b p q)
combined_exact amo.Or a b p q sum = sym (or_exact a b p q)
combined_exact amo.Min a b p q sum = sym (min_signed_exact a b)
combined_exact amo.Max a b p q sum = sym (max_signed_exact a b)
combined_exact amo.Minu a b p q sum = sym (extended_min a b p q)
combined_exact amo.Maxu a b p q sum = sym (extended_max a b p q)

-- ---- shifts

-- a number that fits a word was not cut to 64 bits
uncut : (z : ℤ) → FitsSigned w32 (saturate_signed w64 z) → FitsSigned w32 z
uncut (pos n) f = (let h = f.sfits in record { sfits = omega (arith, h) })
uncut (negsuc n) f = (let h = f.sfits in record { sfits = omega (arith, h) })

power_read : (k : ℕ) → k < 32 → cast_signed w64 ((1 * 2 ^ k) % 2 ^ 64) ≡ pos (2 ^ k)
power_read k h =
    ap (cast_signed w64) (one_shl k 64 (omega (arith, h))) ∙ to_z_pos w64 (2 ^ k) (pow_below k 63 (omega (arith, h)))

-- the product is that of the word's number and the power
pub left_exact : (a n : ℕ) (number product : ℤ) → a < 2 ^ 32 → n % 64 < 32 → number ≡ cast_signed w32 a
    → product ≡ saturate_signed w64 (cast_signed w64 (cast_unsigned w64 number)
    *ℤ cast_signed w64 ((1 * 2 ^ (n % 64)) % 2 ^ 64))
    → FitsSigned w64 product → FitsSigned w32 (cast_signed w64 (cast_unsigned w64 product))
    → IsExactShifted shift.Slli a n
left_exact a n number product p low same is wide fits =
    let read : cast_signed w64 (cast_unsigned w64 number) ≡ cast_signed w32 a =
    ap (λ z. cast_signed w64 (cast_unsigned w64 z)) same
    ∙ to_z-of_z w64 (cast_signed w32 a) (fits_wide (cast_signed w32 a) (signed_fits a))
    in
    let whole = is ∙ (λ i. saturate_signed w64 (read i *ℤ power_read (n % 64) low i)) in
    let f = subst (FitsSigned w32) (to_z-of_z w64 product wide ∙ whole) fits in
    sym (shift_left_exact a n p low (uncut (cast_signed w32 a *ℤ pos (2 ^ (n % 64))) f))
