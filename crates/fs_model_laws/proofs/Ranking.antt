-- Which of two placements is better.
use Rattle.std.proofs.Common.{◌≡◌, ℕ, ◌<◌, ◌==◌, nat_lt, Bool, true, false, ◌&&◌, ◌||◌, List, arith}
use Rattle.fs_kinds.specs.declared.placement.Entry.{Entry}
use Rattle.fs_kinds.specs.Placement.{precedes}
use Rattle.fs_kinds.specs.PriceTable.{PriceTable, cost}
use Rattle.fs_model_laws.specs.Answers.{IsByCostAndOrder}

less : (m n : ℕ) (earlier : Bool) → m < n → (nat_lt m n || (m == n) && earlier) ≡ true
less m n earlier below = grind (arith, below)

more : (m n : ℕ) (earlier : Bool) → n < m → (nat_lt m n || (m == n) && earlier) ≡ false
more m n earlier above = grind (arith, above)

same : (m n : ℕ) (earlier : Bool) → m ≡ n → (nat_lt m n || (m == n) && earlier) ≡ earlier
same m n earlier equal = grind (arith, equal)

pub by_cost_and_order : (prices : PriceTable) (p q : List Entry) → IsByCostAndOrder prices p q
by_cost_and_order prices p q = record {
  cheaper = less (cost prices p) (cost prices q) (precedes p q);
  dearer = more (cost prices p) (cost prices q) (precedes p q);
  equal = same (cost prices p) (cost prices q) (precedes p q);
}
