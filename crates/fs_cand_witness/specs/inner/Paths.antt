-- Orders, cycles and paths in arrays, by their places.
use Rattle.std.specs.Prelude.{◌≡◌, ℕ, ◌+◌, ◌<◌, ◌≤◌, true, false, List, slice_index}
use Rattle.fs_cand_witness.specs.Edges.{has_edge}

-- each number below n once, and no edge goes back or from a number to itself
pub record IsOrder (rows : List ℕ) (n : ℕ) (order : List ℕ) : Type 0 where
  pub below : (i : ℕ) → i < n → slice_index order i < n
  pub reached : (a : ℕ) → a < n → (i : ℕ) × (i < n) × (slice_index order i ≡ a)
  pub forward : (i j : ℕ) → i ≤ j → j < n → has_edge rows (slice_index order j) (slice_index order i) ≡ false

-- each number has an edge to the next, and the last to the first
pub record IsCycle (rows : List ℕ) (n : ℕ) (cycle : List ℕ) (len : ℕ) : Type 0 where
  pub some : 0 < len
  pub fits : len ≤ n
  pub below : (i : ℕ) → i < len → slice_index cycle i < n
  pub next : (i : ℕ) → i + 1 < len → has_edge rows (slice_index cycle i) (slice_index cycle (i + 1)) ≡ true
  pub back : (i : ℕ) → i + 1 ≡ len → has_edge rows (slice_index cycle i) (slice_index cycle 0) ≡ true

-- a path whose last number has an edge to one of its numbers
pub record IsTrail (rows : List ℕ) (path : List ℕ) (len : ℕ) : Type 0 where
  pub some : 0 < len
  pub fits : len ≤ 64
  pub below : (i : ℕ) → i < len → slice_index path i < 64
  pub next : (i : ℕ) → i + 1 < len → has_edge rows (slice_index path i) (slice_index path (i + 1)) ≡ true
  pub back : (last : ℕ) → last + 1 ≡ len → (i : ℕ) × (i < len) × (has_edge rows (slice_index path last) (slice_index path i) ≡ true)
