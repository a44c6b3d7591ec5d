-- Tests of the numbers below a bound, one number more each time.
use Rattle.std.proofs.Common.{◌≡◌, ℕ, ◌+◌, ◌==◌, ◌&&◌, ◌||◌, Bool, true, false, refl, ◌∙◌, sym, ap, inl, inr, arith}
use Rattle.std.specs.Prelude.{nat_lt}
use Rattle.std.proofs.lemmas.Bool.{cases_order, lt-ltb, le-ltb, eq-eqb, ne_eqb}

or_false : (b : Bool) → (b || false) ≡ b
or_false true = refl
or_false false = refl

pub one_more : (g : ℕ → Bool) (y n : ℕ) → ((nat_lt y n && g y) || ((y == n) && g n)) ≡ (nat_lt y (n + 1) && g y)
one_more g y n = elim (cases_order y n) [
  | inl e ↦ rw (e, le-ltb n n (omega arith), eq-eqb n n refl, lt-ltb n (n + 1) (omega arith)) refl
  | inr far ↦ (elim far [
    | inl low ↦ rw (lt-ltb y n low, ne_eqb y n (λ e. absurd (omega arith)), lt-ltb y (n + 1) (omega arith)) (or_false (g y))
    | inr high ↦ rw (le-ltb y n (omega arith), ne_eqb y n (λ e. absurd (omega arith)), le-ltb y (n + 1) (omega arith)) refl
  ])
]

and_true : (b : Bool) → (b && true) ≡ b
and_true true = refl
and_true false = refl

and_false : (b : Bool) → (b && false) ≡ false
and_false true = refl
and_false false = refl

-- the number passes
pub one_in : (g : ℕ → Bool) (y n : ℕ) → g n ≡ true → ((nat_lt y n && g y) || (y == n)) ≡ (nat_lt y (n + 1) && g y)
one_in g y n passes = ap (λ b. (nat_lt y n && g y) || b) (sym (rw passes (and_true (y == n)))) ∙ one_more g y n

-- the number doesn't
pub one_out : (g : ℕ → Bool) (y n : ℕ) → g n ≡ false → (nat_lt y n && g y) ≡ (nat_lt y (n + 1) && g y)
one_out g y n fails = sym (or_false (nat_lt y n && g y)) ∙ (ap (λ b. (nat_lt y n && g y) || b) (sym (rw fails (and_false (y == n)))) ∙ one_more g y n)
