-- Whether a word, moved to the left, fits 32 bits, is asked of a product in 64, which neither wraps nor is cut.
use Rattle.std.proofs.Common.{◌≡◌, ℕ, ◌*◌, ◌%◌, ◌^◌, ◌<◌, ◌≤◌, ℤ, pos, negsuc, ◌*ℤ◌, unsigned_abs, FitsSigned, ap, ◌∙◌, arith, pow_mono}
use Rattle.std.specs.Int.{w32, w64, cast_signed, cast_unsigned, saturate_signed}
use Rattle.std.proofs.lemmas.Int.{fits_signed_mul, to_z-of_z, to_z_pos}
use Rattle.std.proofs.lemmas.Nat.{pow_below}
use Rattle.fs_app_plain.proofs.WordsExtended.{signed_fits, fits_wide}

pub saturated_same : (z : ℤ) → FitsSigned w64 z → saturate_signed w64 z ≡ z
saturated_same (pos n) f = (let h = f.sfits in ap pos (omega (arith, h)))
saturated_same (negsuc n) f = (let h = f.sfits in ap negsuc (omega (arith, h)))

absolute : (z : ℤ) → FitsSigned w32 z → unsigned_abs z ≤ 2 ^ 31
absolute (pos n) f = (let h = f.sfits in omega (arith, h))
absolute (negsuc n) f = (let h = f.sfits in omega (arith, h))

power_at_most : (k : ℕ) → k < 32 → 2 ^ k ≤ 2 ^ 31
power_at_most k h = pow_mono {j = 31} (omega (arith, h))

pub product_fits_wide : (z : ℤ) (k : ℕ) → FitsSigned w32 z → k < 32 → FitsSigned w64 (z *ℤ pos (2 ^ k))
product_fits_wide z k f h =
    fits_signed_mul w64 z (pos (2 ^ k)) (2 ^ 31) (2 ^ 31) (absolute z f) (power_at_most k h) (omega arith)

-- 1, moved to the left
pub one_moved : (k : ℕ) → k < 32 → cast_signed w64 ((1 * 2 ^ k) % 2 ^ 64) ≡ pos (2 ^ k)
one_moved k h =
    let small = pow_below k 32 h in
    let whole : (1 * 2 ^ k) % 2 ^ 64 ≡ 2 ^ k = omega (arith, small) in
    ap (cast_signed w64) whole ∙ to_z_pos w64 (2 ^ k) (omega (arith, small))

-- what is computed of the number and of the power in 64 bits, and then read again, is the product
pub moved_left : (w k : ℕ) (z r : ℤ) → z ≡ cast_signed w32 w → k < 32
    → r ≡ saturate_signed w64 (cast_signed w64 (cast_unsigned w64 z) *ℤ cast_signed w64 ((1 * 2 ^ k) % 2 ^ 64))
    → cast_signed w64 (cast_unsigned w64 r) ≡ cast_signed w32 w *ℤ pos (2 ^ k)
moved_left w k z r e h is =
    let word = cast_signed w32 w in
    let fits = product_fits_wide word k (signed_fits w) h in
    let fits_word = fits_wide word (signed_fits w) in
    let back = ap (λ y. cast_signed w64 (cast_unsigned w64 y)) e ∙ to_z-of_z w64 word fits_word in
    let whole = saturated_same (word *ℤ pos (2 ^ k)) fits in
    let product = is ∙ (λ i. saturate_signed w64 (back i *ℤ one_moved k h i)) ∙ whole in
    ap (λ y. cast_signed w64 (cast_unsigned w64 y)) product ∙ to_z-of_z w64 (word *ℤ pos (2 ^ k)) fits
