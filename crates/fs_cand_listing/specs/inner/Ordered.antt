-- Store orders by number.
use Rattle.std.specs.Prelude.{ℕ, ◌+◌, ◌<◌, List, [], ◌∷◌, map, length}
use Rattle.std.specs.List.{slice_index_or}
use Rattle.fs_model.proofs.ListedNumbers.{AreOnce}
use Rattle.fs_cand_listing.specs.Ways.{orders}

-- the orders of each location's stores, where the initial store of the first location has this number and the others
-- follow it
abbrev pub orders_from : ℕ → List (List ℕ) → List (List (List ℕ))
orders_from first [] = []
orders_from first (stores ∷ rest) = map (λ order. first ∷ order) (orders stores) ∷ orders_from (first + 1) rest

-- no list has a number twice
abbrev pub AreEachOnce : List (List ℕ) → Type 0
AreEachOnce lists = (k : ℕ) → k < length lists → AreOnce (slice_index_or lists k [])
