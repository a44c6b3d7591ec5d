-- Rows of bits under a write and a union.
use Rattle.std.proofs.Common.{◌≡◌, ℕ, zero, suc, ◌+◌, ◌*◌, ◌%◌, ◌^◌, ◌<◌, ◌==◌, ◌&&◌, ◌||◌, Bool, true, false, List, length, get_or, set, max, refl, sym, ap, ◌⊎◌, replicate, inl, inr, arith, ltb, bit_or}
use Rattle.std.specs.Int.{bit_at, w64}
use Rattle.std.proofs.lemmas.Nat.Bits.{bit_at_or, bit_at-lt, bit_at_set_same, bit_at_set_other, bit_at-zero}
use Rattle.std.proofs.lemmas.List.{get_or-set_same, get_or-set_other}
use Rattle.std.proofs.lemmas.Bool.{cases_eq, cases_order, lt-ltb, le-ltb, eq-eqb, ne_eqb}
use Rattle.fs_cand_witness.specs.Edges.{has_edge}

pub or-false : (b : Bool) → (b || false) ≡ b
or-false true = refl
or-false false = refl

or-true : (b : Bool) → (b || true) ≡ true
or-true true = refl
or-true false = refl

one_of : (u : ℕ) → u < 2 → (u ≡ 0) ⊎ (u ≡ 1)
one_of zero h = inl refl
one_of (suc zero) h = inr refl
one_of (suc (suc u)) h = absurd (omega arith)

-- a bit of two numbers together
pub bit_or_test : (m n i : ℕ) → (bit_at (bit_or m n) i == 1) ≡ ((bit_at m i == 1) || (bit_at n i == 1))
bit_or_test m n i = rw (bit_at_or m n i) (test (bit_at m i) (bit_at n i) (bit_at-lt m i) (bit_at-lt n i))
  where
    test : (u v : ℕ) → u < 2 → v < 2 → (max u v == 1) ≡ ((u == 1) || (v == 1))
    test zero zero h k = refl
    test zero (suc zero) h k = refl
    test (suc zero) zero h k = refl
    test (suc zero) (suc zero) h k = refl
    test (suc (suc u)) v h k = absurd (omega arith)
    test zero (suc (suc v)) h k = absurd (omega arith)
    test (suc zero) (suc (suc v)) h k = absurd (omega arith)

-- a bit of a number with bit b set
pub bit_set_test : (n b i : ℕ) → b < 64 → (bit_at (bit_or n (1 * 2 ^ b % 2 ^ 64)) i == 1) ≡ ((bit_at n i == 1) || (i == b))
bit_set_test n b i h = elim (cases_eq i b) [
  | inl e ↦ rw (e, bit_at_set_same w64 n b h, eq-eqb b b refl) (sym (or-true (bit_at n b == 1)))
  | inr ne ↦ rw (bit_at_set_other w64 n b h i ne, ne_eqb i b ne) (sym (or-false (bit_at n i == 1)))
]

-- the pairs after one is put in
pub has_edge-add : (rows : List ℕ) (a b x y : ℕ) → a < length rows → b < 64
    → has_edge (set rows a (bit_or (get_or rows a 0) (1 * 2 ^ b % 2 ^ 64))) x y ≡ (has_edge rows x y || ((x == a) && (y == b)))
has_edge-add rows a b x y within h = elim (cases_eq x a) [
  | inl e ↦ rw (e, eq-eqb a a refl) (rw get_or-set_same (bit_set_test (get_or rows a 0) b y h))
  | inr ne ↦ rw (ne_eqb x a ne) (rw get_or-set_other (sym (or-false (has_edge rows x y))))
]

zero_row : (n x : ℕ) → ◌≡◌ {A = ℕ} (get_or (replicate n 0) x 0) 0
zero_row zero x = refl
zero_row (suc n) zero = refl
zero_row (suc n) (suc x) = zero_row n x

-- no pair is in rows of zeros
pub has_edge-none : (n x y : ℕ) → has_edge (replicate n 0) x y ≡ false
has_edge-none n x y = rw (zero_row n x, bit_at-zero y) refl

-- one more row joined
pub has_edge-join : (rows others : List ℕ) (a x y : ℕ) → a < length rows
    → has_edge (set rows a (bit_or (get_or rows a 0) (get_or others a 0))) x y ≡ (has_edge rows x y || ((x == a) && has_edge others x y))
has_edge-join rows others a x y within = elim (cases_eq x a) [
  | inl e ↦ rw (e, eq-eqb a a refl) (rw get_or-set_same (bit_or_test (get_or rows a 0) (get_or others a 0) y))
  | inr ne ↦ rw (ne_eqb x a ne) (rw get_or-set_other (sym (or-false (has_edge rows x y))))
]

-- the rows below a joined, and then row a too
pub join_step : (x a : ℕ) (r o : Bool) → ((r || (ltb x a && o)) || ((x == a) && o)) ≡ (r || (ltb x (a + 1) && o))
join_step x a r o = elim (cases_order x a) [
  | inl e ↦ rw (e, le-ltb a a (omega arith), eq-eqb a a refl, lt-ltb a (a + 1) (omega arith)) (ap (λ b. b || o) (or-false r))
  | inr far ↦ (elim far [
    | inl low ↦ rw (lt-ltb x a low, ne_eqb x a (λ e. absurd (omega arith)), lt-ltb x (a + 1) (omega arith)) (or-false (r || o))
    | inr high ↦ rw (le-ltb x a (omega arith), ne_eqb x a (λ e. absurd (omega arith)), le-ltb x (a + 1) (omega arith)) (or-false (r || false))
  ])
]
