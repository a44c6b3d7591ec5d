-- Orders of the numbers below a bound.
use Rattle.std.proofs.Common.{◌≡◌, ℕ, suc, ◌<◌, Bool, true, List, [], ◌∷◌, ◌++◌, length, sym, ◌∙◌, arith}
use Rattle.std.specs.Prelude.{All}
use Rattle.std.specs.List.{list_all, zip}
use Rattle.std.proofs.lemmas.Bool.{and_parts}
use Rattle.std.proofs.lemmas.List.FromFn.{length-range_with_len}
use Rattle.fs_model.specs.Numbers.{has_number, numbers_below, stands_before}
use Rattle.fs_model.proofs.ListedNumbers.{AreOnce, range-has, once-range}
use Rattle.fs_model.proofs.NumberOrders.{not_itself, before_trans}
use Rattle.fs_model.proofs.CountedNumbers.{IsWithin, each_once, no_others}
use Rattle.fs_cand_witness.specs.Orders.{IsOrderBelow, IsCycleBelow}

module _ (edge : ℕ → ℕ → Bool) (n : ℕ) (numbers : List ℕ) (is : IsOrderBelow edge n numbers) where
  all : IsWithin (numbers_below n) numbers
  all a there = let range = range-has 0 n a there in is.all a (omega (arith, range.1))

  long : length numbers ≡ length (numbers_below n)
  long = is.long ∙ sym (length-range_with_len 0 n)

  pub order_once : AreOnce numbers
  order_once = each_once (numbers_below n) numbers (once-range 0 n) all long

  -- it has no others
  pub order_below : (a : ℕ) → has_number numbers a ≡ true → a < n
  order_below a there =
      let range = range-has 0 n a (no_others (numbers_below n) numbers (once-range 0 n) all long a there) in omega (arith, range.1)

  along : (b : ℕ) (rest : List ℕ) (z : ℕ) → All (λ a. a < n) (b ∷ rest) → z < n
      → list_all (λ e. edge e.0 e.1) (zip (b ∷ rest) (rest ++ z ∷ [])) ≡ true → stands_before numbers b z ≡ true
  along b [] z low last edges = is.respects b z (low 0 0 (omega arith)) last (and_parts _ _ edges).0
  along b (d ∷ ds) z low last edges =
      let parts = and_parts _ _ edges in
      before_trans numbers b d z order_once (is.respects b d (low 0 0 (omega arith)) (low 1 0 (omega arith)) parts.0)
      (along d ds z (λ k other h. low (suc k) other (omega (arith, h))) last parts.1)

  -- and there is no cycle
  pub no_cycle : (cycle : List ℕ) → IsCycleBelow edge n cycle → ⊥
  no_cycle [] is_cycle = absurd (let some = is_cycle.some in omega (arith, some))
  no_cycle (b ∷ rest) is_cycle = not_itself numbers b order_once (along b rest b is_cycle.below (is_cycle.below 0 0 (omega arith)) is_cycle.edges)
