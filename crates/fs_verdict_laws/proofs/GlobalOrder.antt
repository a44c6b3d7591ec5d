-- The global memory order of an order that has each operation of the harts once: it has all operations, the initial
-- stores before the others.
use Rattle.std.proofs.Common.{◌≡◌, ℕ, ◌<◌, ◌≤◌, inl, inr, true, List, length, sym, ◌∙◌, arith}
use Rattle.std.specs.List.{range_with_len}
use Rattle.std.proofs.lemmas.Bool.{cases_lt, or_cases, or_left, or_right}
use Rattle.fs_model.specs.Numbers.{has_number, stands_before}
use Rattle.fs_model.specs.Operations.{PreExecution, accesses, operations}
use Rattle.fs_model.specs.Source.{lists_each_once, gmo}
use Rattle.fs_model.proofs.ListedNumbers.{has-append, has-range, range-has}
use Rattle.fs_model.proofs.NumberOrders.{before-append}
use Rattle.fs_model.proofs.OnceListed.{order_has, order_below}
use Rattle.fs_model.proofs.WhichOperation.{length_operations}

module _ (x : PreExecution) (order : List ℕ) (once : lists_each_once x order ≡ true) where
  pub gmo_has : (a : ℕ) → a < length (operations x) → has_number (gmo x order) a ≡ true
  gmo_has a below =
      let long = length_operations x in
      has-append (range_with_len (length (accesses x)) (length x.words)) order a ∙ (elim (cases_lt a (length (accesses x))) [
        | inl low ↦ or_right _ _ (order_has x order once a low)
        | inr past ↦ or_left _ _ (has-range (length (accesses x)) (length x.words) a past (omega (arith, below, long)))
      ])

  pub gmo_below : (a : ℕ) → has_number (gmo x order) a ≡ true → a < length (operations x)
  gmo_below a there =
      let long = length_operations x in
      elim (or_cases _ _ (sym (has-append (range_with_len (length (accesses x)) (length x.words)) order a) ∙ there)) [
        | inl first ↦ (let high = range-has (length (accesses x)) (length x.words) a first in omega (arith, high.1, long))
        | inr second ↦ (let low = order_below x order once a second in omega (arith, low, long))
      ]

  -- an initial store stands before each operation of the harts
  pub initial_first : (a b : ℕ) → length (accesses x) ≤ a → a < length (operations x) → b < length (accesses x)
      → stands_before (gmo x order) a b ≡ true
  initial_first a b past below low =
      let long = length_operations x in
      before-append (range_with_len (length (accesses x)) (length x.words)) order a b
      (has-range (length (accesses x)) (length x.words) a past (omega (arith, below, long))) (order_has x order once b low)
