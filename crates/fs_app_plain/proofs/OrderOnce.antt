-- The global memory order without the gone operations lists each of the shorter runs' operations once.
use Rattle.std.proofs.Common.{◌≡◌, ℕ, ◌+◌, ◌<◌, ◌≤◌, true, List, ◌++◌, length, sym, ap, ◌∙◌, inl, inr, arith}
use Rattle.std.specs.List.{range_with_len}
use Rattle.std.proofs.lemmas.Bool.{cases_lt, and_from, eq-eqb, or_left, or_right}
use Rattle.std.proofs.lemmas.List.FromFn.{length-range_with_len}
use Rattle.fs_kinds.specs.declared.placement.Entry.{Entry}
use Rattle.fs_model.specs.Numbers.{has_number, stands_before, numbers_below}
use Rattle.fs_model.specs.Operations.{PreExecution, accesses, operations}
use Rattle.fs_model.specs.Source.{lists_each_once, gmo}
use Rattle.fs_model.proofs.ListedNumbers.{has-append, has-range, range-has, once-range, all_from}
use Rattle.fs_model.proofs.CountedNumbers.{IsWithin, as_long}
use Rattle.fs_model.proofs.OnceListed.{order_has, order_below, order_once}
use Rattle.fs_model.proofs.WhichOperation.{length_operations}
use Rattle.fs_app_plain.proofs.Shortened.{there, Shortens}
use Rattle.fs_app_plain.proofs.OrderLists.{order_without, there_low, there_high, has_without, before_without, once_without, append_without, range_without}

-- the global memory order has each operation
pub gmo_has : (x : PreExecution) (order : List ℕ) → lists_each_once x order ≡ true → (a : ℕ) → a < length (operations x)
    → has_number (gmo x order) a ≡ true
gmo_has x order once a below =
    let long = length_operations x in
    has-append (range_with_len (length (accesses x)) (length x.words)) order a ∙ (elim (cases_lt a (length (accesses x))) [
      | inl low ↦ or_right _ _ (order_has x order once a low)
      | inr past ↦ or_left _ _ (has-range (length (accesses x)) (length x.words) a past (omega (arith, below, long)))
    ])

there_below : (from count a n m : ℕ) → from ≤ n → m ≡ n + count → a < n → there from count a < m
there_below from count a n m inside long low = elim (cases_lt a from) [
  | inl less ↦ (let e = there_low from count a less in omega (arith, e, long, low))
  | inr high ↦ (let e = there_high from count a high in omega (arith, e, long, low))
]

below_there : (from count a n m : ℕ) → from ≤ n → m ≡ n + count → there from count a < m → a < n
below_there from count a n m inside long low = elim (cases_lt a from) [
  | inl less ↦ omega (arith, inside, less)
  | inr high ↦ (let e = there_high from count a high in omega (arith, e, long, low))
]

module _ (p : List Entry) (x y : PreExecution) (from count : ℕ) (short : Shortens p x y from count) (order : List ℕ) where
  pub gmo_without : gmo y (order_without from count order) ≡ order_without from count (gmo x order)
  gmo_without =
      sym (append_without from count (range_with_len (length (accesses x)) (length x.words)) order
      ∙ ap (λ ns. ns ++ order_without from count order)
      (range_without from count (length (accesses x)) (length (accesses y)) (length x.words) short.inside short.long
      ∙ ap (λ ws. range_with_len (length (accesses y)) (length ws)) short.words))

  pub gmo_before : (a b : ℕ) → stands_before (gmo y (order_without from count order)) a b
      ≡ stands_before (gmo x order) (there from count a) (there from count b)
  gmo_before a b = ap (λ ns. stands_before ns a b) gmo_without ∙ before_without from count (gmo x order) a b

  module _ (once : lists_each_once x order ≡ true) where
    within : IsWithin (numbers_below (length (accesses y))) (order_without from count order)
    within a has =
        let low = (range-has 0 (length (accesses y)) a has).1 in
        has_without from count order a
        ∙ order_has x order once (there from count a)
        (there_below from count a (length (accesses y)) (length (accesses x)) short.inside short.long (omega (arith, low)))

    no_more : IsWithin (order_without from count order) (numbers_below (length (accesses y)))
    no_more a has =
        let low = order_below x order once (there from count a) (sym (has_without from count order a) ∙ has) in
        let less = below_there from count a (length (accesses y)) (length (accesses x)) short.inside short.long low in
        has-range 0 (length (accesses y)) a (omega arith) (omega (arith, less))

    pub each_once_without : lists_each_once y (order_without from count order) ≡ true
    each_once_without =
        let many = as_long (numbers_below (length (accesses y))) (order_without from count order) (once-range 0 (length (accesses y)))
        (once_without from count order (order_once x order once)) within no_more in
        and_from _ _ (eq-eqb _ _ (sym many ∙ length-range_with_len 0 (length (accesses y))))
        (all_from (has_number (order_without from count order)) (numbers_below (length (accesses y))) within)
