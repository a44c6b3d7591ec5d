-- Words against rows.
use Rattle.std.proofs.Common.{◌≡◌, ◌≢◌, ℕ, ◌<◌, ◌^◌, ◌==◌, true, false, List, inl, inr, refl, sym, ◌∙◌, ap, subst, arith, bit_and}
use Rattle.std.specs.Int.{bit_at, bit_not, trailing_zeros, w64}
use Rattle.std.proofs.lemmas.Bool.{cases_eq, eq-eqb, eqb-true}
use Rattle.std.proofs.lemmas.Nat.{and_le_r}
use Rattle.std.proofs.lemmas.Nat.Bits.{bit_at_not, bit_at-lt, bit_at-zero}
use Rattle.fs_cand_witness.specs.Edges.{has_bit, has_edge}
use Rattle.fs_cand_witness.proofs.Bitwise.{IsTaken, both_bits, edge, lowest, no_bit, no_edge}

-- nothing of the word is missing in the row
pub all_in : (row word b : ℕ) → row < 2 ^ 64 → bit_and (bit_not w64 row) word ≡ 0 → b < 64 → has_bit word b ≡ true → has_bit row b ≡ true
all_in row word b fits none low there =
    let gone : bit_at (bit_not w64 row) b ≡ 0 = no_bit (bit_not w64 row) word b none (eqb-true (bit_at word b) 1 there) in
    let turned = bit_at_not w64 row b fits low in
    let small = bit_at-lt row b in
    eq-eqb (bit_at row b) 1 (omega (arith, gone, turned, small))

-- something is
pub one_out : (row word : ℕ) → row < 2 ^ 64 → word < 2 ^ 64 → bit_and (bit_not w64 row) word ≢ 0
    → (b : ℕ) × (b < 64) × (has_bit word b ≡ true) × (has_bit row b ≡ false)
one_out row word fits fits' some =
    let found = lowest (bit_and (bit_not w64 row) word) some (omega (arith, fits', and_le_r (bit_not w64 row) word)) in
    let b = trailing_zeros w64 (bit_and (bit_not w64 row) word) in
    let both = both_bits (bit_not w64 row) word b found.1 in
    let turned = bit_at_not w64 row b fits found.0 in
    let small = bit_at-lt row b in
    (b, found.0, edge word b both.1, no_edge row b (omega (arith, both.0, turned, small)))

-- one number fewer is left
pub one_less : (order : List ℕ) (first second left new v a b : ℕ) → IsTaken left new v → a < 64 → b < 64 → has_bit first a ≡ true
    → has_bit new a ≡ false → has_bit second b ≡ true → (has_bit left a ≡ false → has_bit second b ≡ true → has_edge order a b ≡ true)
    → has_edge order v b ≡ true → has_edge order a b ≡ true
one_less order first second left new v a b take low low' there gone there' before now = elim (cases_eq a v) [
  | inl same ↦ subst (λ (z : ℕ). has_edge order z b ≡ true) (sym same) now
  | inr other ↦ before (ap (λ (bit : ℕ). bit == 1) (sym (take.others a low other)) ∙ gone) there'
]

pub none_left : (left a : ℕ) → left ≡ 0 → has_bit left a ≡ false
none_left left a none = rw (none, bit_at-zero a) refl
