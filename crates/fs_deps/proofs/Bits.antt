-- The bits of a mask.
use Rattle.std.proofs.Common.{◌≡◌, ◌||◌, ◌&&◌, ◌==◌, nat_lt, ℕ, zero, suc, ◌*◌, ◌^◌, ◌%◌, ◌<◌, Bool, true, false, refl, sym, ap, ◌∙◌, inl, inr, arith, bit_or, max}
use Rattle.std.specs.Int.{bit_at, w32}
use Rattle.std.proofs.lemmas.Nat.Bits.{bit_at_or, bit_at-lt, bit_at_set_same, bit_at_set_other, bit_at-zero}
use Rattle.std.proofs.lemmas.Bool.{cases_eq, lt-ltb, eq-eqb, ne_eqb, false≢true}
use Rattle.fs_deps.specs.Masks.{is_set}

pub same_bool : (a b : Bool) → (a ≡ true → b ≡ true) → (b ≡ true → a ≡ true) → a ≡ b
same_bool true true h k = refl
same_bool false false h k = refl
same_bool true false h k = absurd (false≢true (h refl))
same_bool false true h k = absurd (false≢true (k refl))

pub or-false : (b : Bool) → (b || false) ≡ b
or-false true = refl
or-false false = refl

or-true : (b : Bool) → (b || true) ≡ true
or-true true = refl
or-true false = refl

and-or : (w a b : Bool) → (w && (a || b)) ≡ (w && a || w && b)
and-or true a b = refl
and-or false a b = refl

and-false : (w : Bool) → (w && false) ≡ false
and-false true = refl
and-false false = refl

pub is_set-zero : (i : ℕ) → is_set 0 i ≡ false
is_set-zero i = ap (λ b. nat_lt i 32 && (b == 1)) (bit_at-zero i) ∙ and-false (nat_lt i 32)

pub is_set-or : (m n i : ℕ) → is_set (bit_or m n) i ≡ (is_set m i || is_set n i)
is_set-or m n i =
    ap (λ b. nat_lt i 32 && (b == 1)) (bit_at_or m n i)
    ∙ ap (λ b. nat_lt i 32 && b) (test (bit_at m i) (bit_at n i) (bit_at-lt m i) (bit_at-lt n i))
    ∙ and-or (nat_lt i 32) (bit_at m i == 1) (bit_at n i == 1)
  where
    test : (u v : ℕ) → u < 2 → v < 2 → (max u v == 1) ≡ ((u == 1) || (v == 1))
    test zero zero h k = refl
    test zero (suc zero) h k = refl
    test (suc zero) zero h k = refl
    test (suc zero) (suc zero) h k = refl
    test (suc (suc u)) v h k = absurd (omega arith)
    test zero (suc (suc v)) h k = absurd (omega arith)
    test (suc zero) (suc (suc v)) h k = absurd (omega arith)

-- bit j set
pub is_set-with : (m j i : ℕ) → j < 32 → is_set (bit_or m (1 * 2 ^ j % 2 ^ 32)) i ≡ (is_set m i || (i == j))
is_set-with m j i h = elim (cases_eq i j) [
  | inl e ↦ rw (e, bit_at_set_same w32 m j h, eq-eqb j j refl, lt-ltb j 32 h) (sym (or-true (bit_at m j == 1)))
  | inr ne ↦ rw (bit_at_set_other w32 m j h i ne, ne_eqb i j ne) (sym (or-false (is_set m i)))
]
