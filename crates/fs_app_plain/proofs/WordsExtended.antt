-- Words extended by their signs to doublewords: which numbers these are, and that their order is that of the words.
use Rattle.std.proofs.Common.{◌≡◌, ℕ, suc, ◌+◌, ◌-◌, ◌*◌, ◌/◌, ◌^◌, ◌<◌, ◌≤◌, ◌==◌, nat_lt, int_lt, min, max, ℤ, pos, negsuc, FitsSigned, inl, inr, refl, sym, ap, ◌∙◌, arith}
use Rattle.std.specs.Int.{w32, w64, cast_signed, cast_unsigned}
use Rattle.std.proofs.lemmas.Int.{ints, of_z-to_z, to_z-of_z, to_z_pos}
use Rattle.std.proofs.lemmas.Bool.{cases_lt, cases_eq, lt-ltb, le-ltb, eq-eqb, ne_eqb}
use Rattle.fs_instr.specs.OfTable.{IsImmediate}
use Rattle.fs_model.specs.Instructions as words
use Rattle.fs_app_plain.specs.Instructions64.{extended, doubleword_of, is_less_signed}

-- ---- which number it is

-- a word as a signed number
pub signed_fits : (w : ℕ) → FitsSigned w32 (cast_signed w32 w)
signed_fits w = omega (arith, ints)

pub fits_wide : (z : ℤ) → FitsSigned w32 z → FitsSigned w64 z
fits_wide z f = omega (arith, ints)

pub signed_small : (w : ℕ) → w < 2 ^ 31 → cast_signed w32 w ≡ pos w
signed_small w h = to_z_pos w32 w h

pub signed_great : (w : ℕ) → 2 ^ 31 ≤ w → w < 2 ^ 32 → cast_signed w32 w ≡ negsuc (2 ^ 32 - suc w)
signed_great w low high =
    let bits : w ≡ 2 ^ 32 - suc (2 ^ 32 - suc w) = omega arith in
    ap (cast_signed w32) bits ∙ to_z-of_z w32 (negsuc (2 ^ 32 - suc w)) (record { sfits = omega arith })

pub extended_small : (w : ℕ) → w < 2 ^ 31 → extended w ≡ w
extended_small w h = ap (cast_unsigned w64) (signed_small w h)

pub extended_great : (w : ℕ) → 2 ^ 31 ≤ w → w < 2 ^ 32 → extended w ≡ w + (2 ^ 64 - 2 ^ 32)
extended_great w low high =
    let bits : 2 ^ 64 - suc (2 ^ 32 - suc w) ≡ w + (2 ^ 64 - 2 ^ 32) = omega arith in
    ap (cast_unsigned w64) (signed_great w low high) ∙ bits

-- w / 2^31 is the sign: 0 or 1
pub extended_by_sign : (w : ℕ) → w < 2 ^ 32 → extended w ≡ w + w / 2 ^ 31 * (2 ^ 64 - 2 ^ 32)
extended_by_sign w h = elim (cases_lt w (2 ^ 31)) [
  | inl small ↦ (let e = extended_small w small in omega (arith, e, small))
  | inr great ↦ (let e = extended_great w great h in omega (arith, e, great, h))
]

pub extended_zero : extended 0 ≡ 0
extended_zero = refl

pub extended_one : extended 1 ≡ 1
extended_one = refl

pub extended_fits : (w : ℕ) → w < 2 ^ 32 → extended w < 2 ^ 64
extended_fits w h = let e = extended_by_sign w h in omega (arith, e, h)

pub extended_injective : (v w : ℕ) → v < 2 ^ 32 → w < 2 ^ 32 → extended v ≡ extended w → v ≡ w
extended_injective v w p q same =
    let e = extended_by_sign v p in
    let f = extended_by_sign w q in
    omega (arith, e, f, same, p, q)

-- ---- order of words without signs

pub extended_less : (a b : ℕ) → a < 2 ^ 32 → b < 2 ^ 32 → a < b → extended a < extended b
extended_less a b p q less =
    let e = extended_by_sign a p in
    let f = extended_by_sign b q in
    omega (arith, e, f, less, p, q)

pub extended_at_most : (a b : ℕ) → a < 2 ^ 32 → b < 2 ^ 32 → a ≤ b → extended a ≤ extended b
extended_at_most a b p q less =
    let e = extended_by_sign a p in
    let f = extended_by_sign b q in
    omega (arith, e, f, less, p, q)

pub extended_less_test : (a b : ℕ) → a < 2 ^ 32 → b < 2 ^ 32 → nat_lt (extended a) (extended b) ≡ nat_lt a b
extended_less_test a b p q = elim (cases_lt a b) [
  | inl less ↦ lt-ltb (extended a) (extended b) (extended_less a b p q less) ∙ sym (lt-ltb a b less)
  | inr more ↦ le-ltb (extended a) (extended b) (extended_at_most b a q p more) ∙ sym (le-ltb a b more)
]

pub extended_same_test : (a b : ℕ) → a < 2 ^ 32 → b < 2 ^ 32 → (extended a == extended b) ≡ (a == b)
extended_same_test a b p q = elim (cases_eq a b) [
  | inl same ↦ eq-eqb (extended a) (extended b) (ap extended same) ∙ sym (eq-eqb a b same)
  | inr apart ↦ (
      let still = λ (same : extended a ≡ extended b). apart (extended_injective a b p q same) in
      ne_eqb (extended a) (extended b) still ∙ sym (ne_eqb a b apart))
]

pub extended_min : (a b : ℕ) → a < 2 ^ 32 → b < 2 ^ 32 → min (extended a) (extended b) ≡ extended (min a b)
extended_min a b p q = elim (cases_lt a b) [
  | inl less ↦ (
      let over = extended_less a b p q less in
      let this : a ≡ min a b = omega arith in
      let e : min (extended a) (extended b) ≡ extended a = omega (arith, over) in
      e ∙ ap extended this)
  | inr more ↦ (
      let over = extended_at_most b a q p more in
      let this : b ≡ min a b = omega arith in
      let e : min (extended a) (extended b) ≡ extended b = omega (arith, over) in
      e ∙ ap extended this)
]

pub extended_max : (a b : ℕ) → a < 2 ^ 32 → b < 2 ^ 32 → max (extended a) (extended b) ≡ extended (max a b)
extended_max a b p q = elim (cases_lt a b) [
  | inl less ↦ (
      let over = extended_less a b p q less in
      let this : b ≡ max a b = omega arith in
      let e : max (extended a) (extended b) ≡ extended b = omega (arith, over) in
      e ∙ ap extended this)
  | inr more ↦ (
      let over = extended_at_most b a q p more in
      let this : a ≡ max a b = omega arith in
      let e : max (extended a) (extended b) ≡ extended a = omega (arith, over) in
      e ∙ ap extended this)
]

-- ---- as signed numbers

pub signed_extended : (w : ℕ) → cast_signed w64 (extended w) ≡ cast_signed w32 w
signed_extended w = to_z-of_z w64 (cast_signed w32 w) (fits_wide (cast_signed w32 w) (signed_fits w))

pub extended_less_signed : (a b : ℕ) → is_less_signed (extended a) (extended b) ≡ words.is_less_signed a b
extended_less_signed a b =
    ap (λ z. int_lt z (cast_signed w64 (extended b))) (signed_extended a)
    ∙ ap (int_lt (cast_signed w32 a)) (signed_extended b)

-- a doubleword is the extension of a word that is the same signed number
pub extended_from : (d w : ℕ) → d < 2 ^ 64 → cast_signed w64 d ≡ cast_signed w32 w → d ≡ extended w
extended_from d w h same = sym (of_z-to_z w64 d h) ∙ ap (cast_unsigned w64) same

-- a number with a sign, as an immediate
pub extended_of : (z : ℤ) → FitsSigned w32 z → extended (cast_unsigned w32 z) ≡ cast_unsigned w64 z
extended_of z f = ap (cast_unsigned w64) (to_z-of_z w32 z f)

pub immediate_fits : (z : ℤ) → IsImmediate z → FitsSigned w32 z
immediate_fits (pos n) h = record { sfits = omega (arith, h) }
immediate_fits (negsuc n) h = record { sfits = omega (arith, h) }

pub extended_word_of : (z : ℤ) → IsImmediate z → extended (words.word_of z) ≡ doubleword_of z
extended_word_of z h = extended_of z (immediate_fits z h)

pub word_of_fits : (z : ℤ) → FitsSigned w32 z → cast_unsigned w32 z < 2 ^ 32
word_of_fits (pos n) f = (let h = f.sfits in omega (arith, h))
word_of_fits (negsuc n) f = omega arith
