-- What instructions make of extended words: what they make of the words, extended. So it is always of order and bits,
-- and of sums, differences and shifts where the result fits 32 bits.
use Rattle.std.proofs.Common.{◌≡◌, ℕ, zero, suc, ◌+◌, ◌-◌, ◌*◌, ◌/◌, ◌%◌, ◌^◌, ◌<◌, nat_lt, ℤ, pos, ◌+ℤ◌, ◌-ℤ◌, ◌*ℤ◌, Bool, true, false, bit_and, bit_or, bit_xor, FitsSigned, if◌then◌else◌, refl, sym, ap, subst, ◌∙◌, arith, mod-eq_of_lt, div-one}
use Rattle.std.specs.Int.{w32, w64, cast_signed, cast_unsigned, int_shr, int_wrap}
use Rattle.std.proofs.lemmas.Int.{to_z-of_z, wrapping_add-bits, wrapping_sub-bits, int_wrap_fits, int_wrap-mul_left}
use Rattle.std.proofs.lemmas.Nat.{and_block, or_block, xor_block, and_shr, or_shr, xor_shr, shr_le}
use Rattle.fs_instr.specs.OfTable.{IsImmediate}
use Rattle.fs_model.specs.Instructions as words
use Rattle.fs_model.specs.Instructions.{flag}
use Rattle.fs_app_plain.specs.Instructions64.{extended, doubleword_of, add, sub, shift_left, shift_right, shift_right_signed, is_less_signed, min_signed, max_signed}
use Rattle.fs_app_plain.proofs.WordsExtended.{extended_by_sign, extended_small, extended_fits, extended_from, extended_of, immediate_fits, word_of_fits, extended_less_signed, extended_less_test, signed_extended, signed_fits, fits_wide}
use Rattle.fs_app_plain.proofs.WordsMade.{and_word, or_word, xor_word, shifted_fits}

-- ---- bits

-- the upper half is 32 times the sign
blocks : (a : ℕ) → a < 2 ^ 32 → extended a ≡ (a / 2 ^ 31 * (2 ^ 32 - 1)) * 2 ^ 32 + a
blocks a p = let e = extended_by_sign a p in omega (arith, e)

signs_and : (s t : ℕ) → s < 2 → t < 2 → bit_and (s * (2 ^ 32 - 1)) (t * (2 ^ 32 - 1)) ≡ bit_and s t * (2 ^ 32 - 1)
signs_and zero zero p q = refl
signs_and zero (suc zero) p q = refl
signs_and (suc zero) zero p q = refl
signs_and (suc zero) (suc zero) p q = refl
signs_and (suc (suc s)) t p q = absurd (omega (arith, p))
signs_and zero (suc (suc t)) p q = absurd (omega (arith, q))
signs_and (suc zero) (suc (suc t)) p q = absurd (omega (arith, q))

signs_or : (s t : ℕ) → s < 2 → t < 2 → bit_or (s * (2 ^ 32 - 1)) (t * (2 ^ 32 - 1)) ≡ bit_or s t * (2 ^ 32 - 1)
signs_or zero zero p q = refl
signs_or zero (suc zero) p q = refl
signs_or (suc zero) zero p q = refl
signs_or (suc zero) (suc zero) p q = refl
signs_or (suc (suc s)) t p q = absurd (omega (arith, p))
signs_or zero (suc (suc t)) p q = absurd (omega (arith, q))
signs_or (suc zero) (suc (suc t)) p q = absurd (omega (arith, q))

signs_xor : (s t : ℕ) → s < 2 → t < 2 → bit_xor (s * (2 ^ 32 - 1)) (t * (2 ^ 32 - 1)) ≡ bit_xor s t * (2 ^ 32 - 1)
signs_xor zero zero p q = refl
signs_xor zero (suc zero) p q = refl
signs_xor (suc zero) zero p q = refl
signs_xor (suc zero) (suc zero) p q = refl
signs_xor (suc (suc s)) t p q = absurd (omega (arith, p))
signs_xor zero (suc (suc t)) p q = absurd (omega (arith, q))
signs_xor (suc zero) (suc (suc t)) p q = absurd (omega (arith, q))

-- an operation that takes halves and signs apart
bits_exact : (op : ℕ → ℕ → ℕ) (a b : ℕ) → a < 2 ^ 32 → b < 2 ^ 32 → op a b < 2 ^ 32
    → ((s t : ℕ) → s < 2 → t < 2 → op (s * (2 ^ 32 - 1)) (t * (2 ^ 32 - 1)) ≡ op s t * (2 ^ 32 - 1))
    → ((high other : ℕ) → op (high * 2 ^ 32 + a) (other * 2 ^ 32 + b) ≡ op high other * 2 ^ 32 + op a b)
    → op a b / 2 ^ 31 ≡ op (a / 2 ^ 31) (b / 2 ^ 31)
    → op (extended a) (extended b) ≡ extended (op a b)
bits_exact op a b p q r signs halves sign =
    let s : a / 2 ^ 31 < 2 = omega (arith, p) in
    let t : b / 2 ^ 31 < 2 = omega (arith, q) in
    ap (λ v. op v (extended b)) (blocks a p)
    ∙ ap (op ((a / 2 ^ 31 * (2 ^ 32 - 1)) * 2 ^ 32 + a)) (blocks b q)
    ∙ halves (a / 2 ^ 31 * (2 ^ 32 - 1)) (b / 2 ^ 31 * (2 ^ 32 - 1))
    ∙ ap (λ v. v * 2 ^ 32 + op a b) (signs (a / 2 ^ 31) (b / 2 ^ 31) s t)
    ∙ ap (λ v. (v * (2 ^ 32 - 1)) * 2 ^ 32 + op a b) (sym sign)
    ∙ sym (blocks (op a b) r)

pub and_exact : (a b : ℕ) → a < 2 ^ 32 → b < 2 ^ 32 → bit_and (extended a) (extended b) ≡ extended (bit_and a b)
and_exact a b p q =
    bits_exact bit_and a b p q (and_word a b p) signs_and (λ h k. and_block 32 h k a b p q) (and_shr a b 31)

pub or_exact : (a b : ℕ) → a < 2 ^ 32 → b < 2 ^ 32 → bit_or (extended a) (extended b) ≡ extended (bit_or a b)
or_exact a b p q =
    bits_exact bit_or a b p q (or_word a b p q) signs_or (λ h k. or_block 32 h k a b p q) (or_shr a b 31)

pub xor_exact : (a b : ℕ) → a < 2 ^ 32 → b < 2 ^ 32 → bit_xor (extended a) (extended b) ≡ extended (bit_xor a b)
xor_exact a b p q =
    bits_exact bit_xor a b p q (xor_word a b p q) signs_xor (λ h k. xor_block 32 h k a b p q) (xor_shr a b 31)

-- ---- comparisons

pub extended_flag : (c : Bool) → extended (flag c) ≡ flag c
extended_flag true = refl
extended_flag false = refl

pub less_signed_exact : (a b : ℕ)
    → flag (is_less_signed (extended a) (extended b)) ≡ extended (flag (words.is_less_signed a b))
less_signed_exact a b = ap flag (extended_less_signed a b) ∙ sym (extended_flag (words.is_less_signed a b))

pub less_exact : (a b : ℕ) → a < 2 ^ 32 → b < 2 ^ 32
    → flag (nat_lt (extended a) (extended b)) ≡ extended (flag (nat_lt a b))
less_exact a b p q = ap flag (extended_less_test a b p q) ∙ sym (extended_flag (nat_lt a b))

either_exact : (c : Bool) (a b : ℕ) → (if c then extended b else extended a) ≡ extended (if c then b else a)
either_exact true a b = refl
either_exact false a b = refl

pub min_signed_exact : (a b : ℕ) → min_signed (extended a) (extended b) ≡ extended (words.min_signed a b)
min_signed_exact a b =
    ap (λ c. if c then extended b else extended a) (extended_less_signed b a)
    ∙ either_exact (words.is_less_signed b a) a b

pub max_signed_exact : (a b : ℕ) → max_signed (extended a) (extended b) ≡ extended (words.max_signed a b)
max_signed_exact a b =
    ap (λ c. if c then extended b else extended a) (extended_less_signed a b)
    ∙ either_exact (words.is_less_signed a b) a b

-- ---- sums and differences

-- a number with a sign that fits a word, and what is left of it in 64 bits and in 32
exact_from : (d w : ℕ) (z : ℤ) → d < 2 ^ 64 → cast_signed w64 d ≡ int_wrap w64 z → cast_signed w32 w ≡ int_wrap w32 z
    → FitsSigned w32 z → d ≡ extended w
exact_from d w z h wide narrow f =
    extended_from d w h (wide ∙ int_wrap_fits w64 z (fits_wide z f) ∙ sym (int_wrap_fits w32 z f) ∙ sym narrow)

remainder_fits : (n : ℕ) → n % 2 ^ 64 < 2 ^ 64
remainder_fits n = omega arith

signed_sum : (a b : ℕ) → a < 2 ^ 32 → b < 2 ^ 32
    → cast_signed w64 (add (extended a) (extended b)) ≡ int_wrap w64 (cast_signed w32 a +ℤ cast_signed w32 b)
signed_sum a b p q =
    wrapping_add-bits w64 (extended a) (extended b) (extended_fits a p) (extended_fits b q)
    ∙ (λ i. int_wrap w64 (signed_extended a i +ℤ signed_extended b i))

pub add_exact : (a b : ℕ) → a < 2 ^ 32 → b < 2 ^ 32 → FitsSigned w32 (cast_signed w32 a +ℤ cast_signed w32 b)
    → add (extended a) (extended b) ≡ extended (words.add a b)
add_exact a b p q f =
    let small = remainder_fits (extended a + extended b) in
    exact_from (add (extended a) (extended b)) (words.add a b) (cast_signed w32 a +ℤ cast_signed w32 b) small
    (signed_sum a b p q) (wrapping_add-bits w32 a b p q) f

signed_difference : (a b : ℕ) → a < 2 ^ 32 → b < 2 ^ 32
    → cast_signed w64 (sub (extended a) (extended b)) ≡ int_wrap w64 (cast_signed w32 a -ℤ cast_signed w32 b)
signed_difference a b p q =
    wrapping_sub-bits w64 (extended a) (extended b) (extended_fits a p) (extended_fits b q)
    ∙ (λ i. int_wrap w64 (signed_extended a i -ℤ signed_extended b i))

pub sub_exact : (a b : ℕ) → a < 2 ^ 32 → b < 2 ^ 32 → FitsSigned w32 (cast_signed w32 a -ℤ cast_signed w32 b)
    → sub (extended a) (extended b) ≡ extended (words.sub a b)
sub_exact a b p q f =
    let small = remainder_fits (extended a + (2 ^ 64 - extended b)) in
    exact_from (sub (extended a) (extended b)) (words.sub a b) (cast_signed w32 a -ℤ cast_signed w32 b) small
    (signed_difference a b p q) (wrapping_sub-bits w32 a b p q) f

pub add_immediate_exact : (a : ℕ) (z : ℤ) → a < 2 ^ 32 → IsImmediate z → FitsSigned w32 (cast_signed w32 a +ℤ z)
    → add (extended a) (doubleword_of z) ≡ extended (words.add a (words.word_of z))
add_immediate_exact a z p s f =
    let g : FitsSigned w32 z = immediate_fits z s in
    let sum = subst (λ y. FitsSigned w32 (cast_signed w32 a +ℤ y)) (sym (to_z-of_z w32 z g)) f in
    ap (add (extended a)) (sym (extended_of z g)) ∙ add_exact a (words.word_of z) p (word_of_fits z g) sum

-- ---- shifts

-- in the low 6 bits of an amount the sign is not seen
pub extended_amount : (b : ℕ) → b < 2 ^ 32 → extended b % 64 ≡ b % 64
extended_amount b q = let e = extended_by_sign b q in omega (arith, e)

pub same_amount : (b : ℕ) → b % 64 < 32 → b % 64 ≡ b % 32
same_amount b h = omega (arith, h)

-- a product of bits, by a factor without a sign
signed_product : (m n : ℕ) → m < 2 ^ 64 → cast_signed w64 ((m * n) % 2 ^ 64) ≡ int_wrap w64 (cast_signed w64 m *ℤ pos n)
unfolding int_wrap
signed_product m n h =
    sym (int_wrap-mul_left w64 (pos m) (pos n)) ∙ ap (λ r. int_wrap w64 (cast_signed w64 r *ℤ pos n)) (mod-eq_of_lt h)

signed_word_product : (m n : ℕ) → m < 2 ^ 32
    → cast_signed w32 ((m * n) % 2 ^ 32) ≡ int_wrap w32 (cast_signed w32 m *ℤ pos n)
unfolding int_wrap
signed_word_product m n h =
    sym (int_wrap-mul_left w32 (pos m) (pos n)) ∙ ap (λ r. int_wrap w32 (cast_signed w32 r *ℤ pos n)) (mod-eq_of_lt h)

signed_left : (a b : ℕ) → a < 2 ^ 32
    → cast_signed w64 (shift_left (extended a) b) ≡ int_wrap w64 (cast_signed w32 a *ℤ pos (2 ^ (b % 64)))
signed_left a b p =
    signed_product (extended a) (2 ^ (b % 64)) (extended_fits a p)
    ∙ ap (λ z. int_wrap w64 (z *ℤ pos (2 ^ (b % 64)))) (signed_extended a)

signed_word_left : (a b : ℕ) → a < 2 ^ 32 → b % 64 < 32
    → cast_signed w32 (words.shift_left a b) ≡ int_wrap w32 (cast_signed w32 a *ℤ pos (2 ^ (b % 64)))
signed_word_left a b p h =
    signed_word_product a (2 ^ (b % 32)) p
    ∙ ap (λ k. int_wrap w32 (cast_signed w32 a *ℤ pos (2 ^ k))) (sym (same_amount b h))

pub shift_left_exact : (a b : ℕ) → a < 2 ^ 32 → b % 64 < 32 → FitsSigned w32 (cast_signed w32 a *ℤ pos (2 ^ (b % 64)))
    → shift_left (extended a) b ≡ extended (words.shift_left a b)
shift_left_exact a b p h f =
    let small = remainder_fits (extended a * 2 ^ (b % 64)) in
    exact_from (shift_left (extended a) b) (words.shift_left a b) (cast_signed w32 a *ℤ pos (2 ^ (b % 64))) small
    (signed_left a b p) (signed_word_left a b p h) f

pub shift_right_signed_exact : (a b : ℕ) → b % 64 < 32
    → shift_right_signed (extended a) b ≡ extended (words.shift_right_signed a b)
shift_right_signed_exact a b h =
    ap (λ z. cast_unsigned w64 (int_shr z (b % 64))) (signed_extended a)
    ∙ ap (λ k. cast_unsigned w64 (int_shr (cast_signed w32 a) k)) (same_amount b h)
    ∙ sym (extended_of (int_shr (cast_signed w32 a) (b % 32))
    (shifted_fits (cast_signed w32 a) (b % 32) (signed_fits a)))

-- by nothing
pub shift_right_none_exact : (a b : ℕ) → b % 64 ≡ 0 → shift_right (extended a) b ≡ extended (words.shift_right a b)
shift_right_none_exact a b h =
    let none : b % 32 ≡ 0 = omega (arith, h) in
    ap (λ k. extended a / 2 ^ k) h ∙ div-one (extended a) ∙ ap extended (sym (ap (λ k. a / 2 ^ k) none ∙ div-one a))

-- of a word without a sign
pub shift_right_exact : (a b : ℕ) → a < 2 ^ 31 → b % 64 < 32
    → shift_right (extended a) b ≡ extended (words.shift_right a b)
shift_right_exact a b p h =
    ap (λ v. v / 2 ^ (b % 64)) (extended_small a p)
    ∙ ap (λ k. a / 2 ^ k) (same_amount b h)
    ∙ sym (extended_small (words.shift_right a b) (omega (arith, p, shr_le a (b % 32))))
