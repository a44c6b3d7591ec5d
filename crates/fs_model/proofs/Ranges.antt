-- From tests that compute to facts for every number: operations in program order have numbers that are there.
use Rattle.std.proofs.Common.{◌≡◌, ℕ, zero, suc, ◌+◌, ◌<◌, ◌≤◌, Bool, true, false, ◌&&◌, ◌||◌, not, Option, None, Some, length, inl, inr, arith, ap, subst}
use Rattle.std.specs.List.{list_all, range_with_len}
use Rattle.std.proofs.Math.ListN.{get_or-eq_default}
use Rattle.std.proofs.lemmas.Bool.{and_parts, false≢true, cases_eq, cases_lt}
use Rattle.fs_model.specs.Numbers.{is_same, numbers_below}
use Rattle.fs_model.specs.Operations.{PreExecution, operation, operations, nothing, po}

each_from : (test : ℕ → Bool) (a n k : ℕ) → list_all test (range_with_len a n) ≡ true → a ≤ k → k < a + n → test k ≡ true
each_from test a zero k h low high = absurd (omega arith)
each_from test a (suc n) k h low high =
    let parts = and_parts (test a) (list_all test (range_with_len (a + 1) n)) h in
    elim (cases_eq a k) [
      | inl e ↦ subst (λ (x : ℕ). test x ≡ true) e parts.0
      | inr ne ↦ each_from test (a + 1) n k parts.1 (omega arith) (omega arith)
    ]

-- what a test finds of each number below n
pub each_below : (test : ℕ → Bool) (n k : ℕ) → list_all test (numbers_below n) ≡ true → k < n → test k ≡ true
each_below test n k h below = each_from test 0 n k h (omega arith) (omega arith)

-- and of each two
pub each_two_below : (test : ℕ → ℕ → Bool) (n a b : ℕ) → list_all (λ a. list_all (test a) (numbers_below n)) (numbers_below n) ≡ true → a < n → b < n → test a b ≡ true
each_two_below test n a b h low high = each_below (test a) n b (each_below (λ a. list_all (test a) (numbers_below n)) n a h low) high

pub implies_at : (x y : Bool) → (not x || y) ≡ true → x ≡ true → y ≡ true
implies_at true y h e = h
implies_at false y h e = absurd (false≢true e)

first_there : (h k : Option ℕ) (c : Bool) → (is_same h k && c) ≡ true → h ≡ None → ⊥
first_there None k c e n = false≢true e
first_there (Some a) k c e n = cc

second_there : (h k : Option ℕ) (c : Bool) → (is_same h k && c) ≡ true → k ≡ None → ⊥
second_there None k c e n = false≢true e
second_there (Some a) None c e n = false≢true e
second_there (Some a) (Some b) c e n = cc

-- a number past the last operation is that of nothing
pub past_last : (x : PreExecution) (a : ℕ) → length (operations x) ≤ a → operation x a ≡ nothing
past_last x a past = get_or-eq_default (operations x) nothing past

pub po_in_range : (x : PreExecution) (a b : ℕ) → po x a b ≡ true → (a < length (operations x)) × (b < length (operations x))
po_in_range x a b h = (
  elim (cases_lt a (length (operations x))) [
    | inl low ↦ low
    | inr past ↦ absurd (first_there _ _ _ h (ap (λ o. o.hart) (past_last x a past)))
  ],
  elim (cases_lt b (length (operations x))) [
    | inl low ↦ low
    | inr past ↦ absurd (second_there _ _ _ h (ap (λ o. o.hart) (past_last x b past)))
  ],
)
