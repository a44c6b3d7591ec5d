-- An order that lists each operation of the harts once has no number twice, and none past the last.
use Rattle.std.proofs.Common.{◌≡◌, ℕ, ◌<◌, true, List, ◌∷◌, ◌++◌, length, refl, sym, ◌∙◌, arith}
use Rattle.std.specs.List.{range_with_len}
use Rattle.std.proofs.lemmas.Bool.{and_parts, eqb-true, or_right}
use Rattle.std.proofs.lemmas.List.FromFn.{length-range_with_len}
use Rattle.fs_model.specs.Numbers.{has_number, numbers_below}
use Rattle.fs_model.specs.Operations.{PreExecution, accesses}
use Rattle.fs_model.specs.Source.{lists_each_once, gmo}
use Rattle.fs_model.proofs.ListedNumbers.{AreOnce, has-here, has-append, once-append, once_apart, has-range, range-has, once-range, all_at}
use Rattle.fs_model.proofs.CountedNumbers.{IsWithin, no_others, each_once}

pub once_long : (x : PreExecution) (order : List ℕ) → lists_each_once x order ≡ true → length order ≡ length (accesses x)
once_long x order once = eqb-true (length order) (length (accesses x)) (and_parts _ _ once).0

module _ (x : PreExecution) (order : List ℕ) (once : lists_each_once x order ≡ true) where
  long : length order ≡ length (numbers_below (length (accesses x)))
  long =
      eqb-true (length order) (length (accesses x)) (and_parts _ _ once).0 ∙ sym (length-range_with_len 0 (length (accesses x)))

  all : IsWithin (numbers_below (length (accesses x))) order
  all a there = all_at (has_number order) (numbers_below (length (accesses x))) a (and_parts _ _ once).1 there

  -- it has each operation, once and no number past the last
  pub order_has : (a : ℕ) → a < length (accesses x) → has_number order a ≡ true
  order_has a low = all a (has-range 0 (length (accesses x)) a (omega arith) (omega (arith, low)))

  pub order_below : (a : ℕ) → has_number order a ≡ true → a < length (accesses x)
  order_below a there =
      let rest = range-has 0 (length (accesses x)) a
      (no_others (numbers_below (length (accesses x))) order (once-range 0 (length (accesses x))) all long a there) in
      omega (arith, rest.1)

  pub order_once : AreOnce order
  order_once = each_once (numbers_below (length (accesses x))) order (once-range 0 (length (accesses x))) all long

  pub gmo_once : AreOnce (gmo x order)
  gmo_once =
      once-append (range_with_len (length (accesses x)) (length x.words)) order (once-range (length (accesses x)) (length x.words)) order_once
      (λ a first second.
      let high = range-has (length (accesses x)) (length x.words) a first in
      let low = order_below a second in
      omega (arith, low, high.0))

-- one of its numbers is that of an operation, and is not there before
module _ (x : PreExecution) (front back : List ℕ) (c : ℕ) (once : lists_each_once x (front ++ c ∷ back) ≡ true) where
  pub is_below : c < length (accesses x)
  is_below =
      order_below x (front ++ c ∷ back) once c (has-append front (c ∷ back) c ∙ or_right (has_number front c) _ (has-here c back c refl))

  pub is_new : has_number front c ≡ true → ⊥
  is_new there = once_apart front (c ∷ back) c (order_once x (front ++ c ∷ back) once) there (has-here c back c refl)
