-- Orders that extend a relation on the numbers below n, and cycles of it.
use Rattle.std.specs.Prelude.{◌≡◌, ℕ, ◌<◌, ◌≤◌, Bool, true, All, List, length}
use Rattle.std.specs.List.{list_all}
use Rattle.fs_model.specs.Numbers.{has_number, stands_before}
use Rattle.fs_cert_evidence.specs.Cycles.{around}

-- each number below n once, and each edge goes forward
pub record IsOrderBelow (edge : ℕ → ℕ → Bool) (n : ℕ) (numbers : List ℕ) : Type 0 where
  pub long : length numbers ≡ n
  pub all : (a : ℕ) → a < n → has_number numbers a ≡ true
  pub respects : (a b : ℕ) → a < n → b < n → edge a b ≡ true → stands_before numbers a b ≡ true

-- numbers below n, each with an edge to the next, and the last to the first
pub record IsCycleBelow (edge : ℕ → ℕ → Bool) (n : ℕ) (numbers : List ℕ) : Type 0 where
  pub some : 1 ≤ length numbers
  pub most : length numbers ≤ n
  pub below : All (λ a. a < n) numbers
  pub edges : list_all (λ pair. edge pair.0 pair.1) (around numbers) ≡ true
