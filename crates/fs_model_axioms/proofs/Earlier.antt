-- Bits of a number under a union.
use Rattle.std.proofs.Common.{◌≡◌, ℕ, zero, suc, ◌+◌, ◌*◌, ◌%◌, ◌^◌, ◌<◌, ◌≤◌, ◌==◌, ◌&&◌, ◌||◌, ◌⊎◌, Bool, true, false, List, [], length, take, get_or, set, max, refl, sym, ◌∙◌, replicate, inl, inr, arith, bit_or}
use Rattle.std.specs.Int.{bit_at, w64}
use Rattle.std.proofs.lemmas.Nat.Bits.{bit_at_or, bit_at-lt, bit_at_set_same, bit_at_set_other, bit_at-zero}
use Rattle.std.proofs.lemmas.List.{get_or-set_same, get_or-set_other}
use Rattle.std.proofs.lemmas.Bool.{cases_eq, eq-eqb, ne_eqb}
use Rattle.fs_model.specs.Numbers.{has_number, stands_before}
use Rattle.fs_model_axioms.specs.Earlier.{has_bit, AreEarlier}
use Rattle.fs_model_axioms.proofs.Listed.{or-false, or-true}
use Rattle.fs_model.proofs.GrowingLists.{has_number-more, stands_before-more}

and-false : (b : Bool) → (b && false) ≡ false
and-false true = refl
and-false false = refl

and-true : (b : Bool) → (b && true) ≡ b
and-true true = refl
and-true false = refl

one_of : (u : ℕ) → u < 2 → (u ≡ 0) ⊎ (u ≡ 1)
one_of zero h = inl refl
one_of (suc zero) h = inr refl
one_of (suc (suc u)) h = absurd (omega arith)

-- a bit of two numbers together
pub bit_or_test : (m n i : ℕ) → (bit_at (bit_or m n) i == 1) ≡ ((bit_at m i == 1) || (bit_at n i == 1))
bit_or_test m n i = rw (bit_at_or m n i) (test (bit_at m i) (bit_at n i) (bit_at-lt m i) (bit_at-lt n i))
  where
    test : (u v : ℕ) → u < 2 → v < 2 → (max u v == 1) ≡ ((u == 1) || (v == 1))
    test zero zero h k = refl
    test zero (suc zero) h k = refl
    test (suc zero) zero h k = refl
    test (suc zero) (suc zero) h k = refl
    test (suc (suc u)) v h k = absurd (omega arith)
    test zero (suc (suc v)) h k = absurd (omega arith)
    test (suc zero) (suc (suc v)) h k = absurd (omega arith)

-- a bit of a number with bit b set
pub bit_set_test : (n b i : ℕ) → b < 64 → (bit_at (bit_or n (1 * 2 ^ b % 2 ^ 64)) i == 1) ≡ ((bit_at n i == 1) || (i == b))
bit_set_test n b i h = elim (cases_eq i b) [
  | inl e ↦ rw (e, bit_at_set_same w64 n b h, eq-eqb b b refl) (sym (or-true (bit_at n b == 1)))
  | inr ne ↦ rw (bit_at_set_other w64 n b h i ne, ne_eqb i b ne) (sym (or-false (bit_at n i == 1)))
]

-- ---- the table of earlier numbers, as the list grows by one

abbrev pub IsSeen : List ℕ → (seen : ℕ) → Type 0
IsSeen listed seen = (a : ℕ) → a < 64 → has_bit seen a ≡ has_number listed a

pub seen_more : (xs : List ℕ) (i seen n : ℕ) → i < length xs → get_or xs i 0 ≡ n → n < 64 → IsSeen (take i xs) seen
    → IsSeen (take (i + 1) xs) (bit_or seen (1 * 2 ^ n % 2 ^ 64))
seen_more xs i seen n low e fits h a below =
    bit_set_test seen n a fits
    ∙ (elim (cases_eq a n) [
      | inl same ↦ rw (
        has_number-more xs i a low,
        e,
        same,
        eq-eqb n n refl,
        or-true (has_bit seen n),
        or-true (has_number
            (take i xs) n),
      ) refl
      | inr ne ↦ rw (has_number-more xs i a low, e, ne_eqb a n ne, ne_eqb n a (λ f. ne (sym f)), h a below) refl
    ])

pub seen_past : (xs : List ℕ) (i seen : ℕ) → i < length xs → 64 ≤ get_or xs i 0 → IsSeen (take i xs) seen
    → IsSeen (take (i + 1) xs) seen
seen_past xs i seen low past h a below =
    h a below ∙ sym (has_number-more xs i a low
    ∙ rw (ne_eqb (get_or xs i 0) a (λ e. absurd (omega arith))) (or-false (has_number (take i xs) a)))

pub earlier_more : (xs table : List ℕ) (i seen n : ℕ) → i < length xs → get_or xs i 0 ≡ n → n < 64 → length table ≡ 64
    → IsSeen (take i xs) seen → AreEarlier (take i xs) table
    → AreEarlier (take (i + 1) xs) (set table n (bit_or (get_or table n 0) seen))
earlier_more xs table i seen n low e fits len h k a b ha hb = elim (cases_eq b n) [
  | inl same ↦ rw (
    stands_before-more xs i a b low,
    e,
    same,
    eq-eqb n n refl,
    get_or-set_same table n (bit_or (get_or table n 0) seen) 0 (omega arith),
    bit_or_test (get_or table n 0) seen a,
    k a n ha fits,
    h a ha,
    and-true (has_number (take i xs) a),
  )
      refl
  | inr ne ↦ rw (
    stands_before-more xs i a b low,
    e,
    ne_eqb n b (λ f. ne (sym f)),
    get_or-set_other table n b (bit_or (get_or table n 0) seen) 0 ne,
    k a b ha hb,
    and-false (has_number (take i xs) a),
  )
      (sym (or-false (stands_before (take i xs) a b)))
]

pub earlier_past : (xs table : List ℕ) (i : ℕ) → i < length xs → 64 ≤ get_or xs i 0 → AreEarlier (take i xs) table
    → AreEarlier (take (i + 1) xs) table
earlier_past xs table i low past k a b ha hb =
    k a b ha hb
    ∙ sym (stands_before-more xs i a b low
    ∙ rw (ne_eqb (get_or xs i 0) b (λ e. absurd (omega arith)), and-false (has_number (take i xs) a)) (or-false (stands_before
    (take i xs) a b)))

zeros : (n k : ℕ) → ◌≡◌ {A = ℕ} (get_or (replicate n 0) k 0) 0
zeros zero k = refl
zeros (suc n) zero = refl
zeros (suc n) (suc k) = zeros n k

pub none_earlier : (n : ℕ) → AreEarlier [] (replicate n 0)
none_earlier n a b ha hb = rw (zeros n b, bit_at-zero a) refl

pub none_seen : IsSeen [] 0
none_seen a ha = rw (bit_at-zero a) refl
