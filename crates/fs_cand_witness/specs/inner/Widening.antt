-- Relations that are widened.
use Rattle.std.specs.Prelude.{◌≡◌, ◌⊎◌, ℕ, Bool, true, Some, List, slice_get}
use Rattle.fs_cand_witness.specs.Edges.{has_bit, has_edge}
use Rattle.fs_cand_witness.specs.Orders.{IsOrderBelow}
use Rattle.fs_cand_witness.specs.declared.points.Sides.{Sides}

-- an order of the numbers below n extends the relation
abbrev pub HasOrder : List ℕ → ℕ → Type 0
HasOrder rows n = (numbers : List ℕ) × IsOrderBelow (has_edge rows) n numbers

-- the second relation has each edge of the first, and has an order
pub record IsWider (n : ℕ) (rows wider : List ℕ) : Type 0 where
  pub kept : (a b : ℕ) → has_edge rows a b ≡ true → has_edge wider a b ≡ true
  pub order : HasOrder wider n

-- the relation has an edge from each of some numbers to each of others
abbrev pub HasEach : (ℕ → ℕ → Bool) → (from to : ℕ) → Type 0
HasEach edge from to = (a b : ℕ) → has_bit from a ≡ true → has_bit to b ≡ true → edge a b ≡ true

-- no order extends the rows with such edges
abbrev pub HasNoRoom : ℕ → List ℕ → (from to : ℕ) → Type 0
HasNoRoom n rows from to =
    (edge : ℕ → ℕ → Bool) (numbers : List ℕ) → ((a b : ℕ) → has_edge rows a b ≡ true → edge a b ≡ true)
    → HasEach edge from to → IsOrderBelow edge n numbers → ⊥

-- the rows have such edges, or no room for them
abbrev pub IsTried : ℕ → List ℕ → (from to : ℕ) → Type 0
IsTried n rows from to = HasEach (has_edge rows) from to ⊎ HasNoRoom n rows from to

-- and so it is for each pair of classes at the place
pub record AreTried (n : ℕ) (rows : List ℕ) (side : Sides) : Type 0 where
  pub read_read : IsTried n rows side.reads_before side.reads_after
  pub read_write : IsTried n rows side.reads_before side.writes_after
  pub write_read : IsTried n rows side.writes_before side.reads_after
  pub write_write : IsTried n rows side.writes_before side.writes_after

-- ---- nothing else is added

-- the second relation keeps each pair of classes at the place that the rows keep
pub record KeepsAs (rows : List ℕ) (edge : ℕ → ℕ → Bool) (side : Sides) : Type 0 where
  pub read_read : HasEach (has_edge rows) side.reads_before side.reads_after → HasEach edge side.reads_before side.reads_after
  pub read_write : HasEach (has_edge rows) side.reads_before side.writes_after → HasEach edge side.reads_before side.writes_after
  pub write_read : HasEach (has_edge rows) side.writes_before side.reads_after → HasEach edge side.writes_before side.reads_after
  pub write_write : HasEach (has_edge rows) side.writes_before side.writes_after → HasEach edge side.writes_before side.writes_after

-- the second relation has each edge of the rows
abbrev pub HasAll : List ℕ → (ℕ → ℕ → Bool) → Type 0
HasAll rows edge = (a b : ℕ) → has_edge rows a b ≡ true → edge a b ≡ true

-- The wider rows are made of the rows and of such edges, if they have them, alone: each relation that has these has
-- all.
abbrev pub IsMadeBy : List ℕ → (from to : ℕ) → List ℕ → Type 0
IsMadeBy rows from to wider =
    (edge : ℕ → ℕ → Bool) → HasAll rows edge → (HasEach (has_edge wider) from to → HasEach edge from to) → HasAll wider edge

-- of the rows and of the pairs that they keep at the place
abbrev pub IsMadeAt : List ℕ → Sides → List ℕ → Type 0
IsMadeAt rows side wider = (edge : ℕ → ℕ → Bool) → HasAll rows edge → KeepsAs wider edge side → HasAll wider edge

-- of the rows and of the pairs that they keep at all places
abbrev pub IsMadeOf : List ℕ → List Sides → List ℕ → Type 0
IsMadeOf rows sides wider =
    (edge : ℕ → ℕ → Bool) → HasAll rows edge
    → ((k : ℕ) (side : Sides) → slice_get sides k ≡ Some side → KeepsAs wider edge side) → HasAll wider edge
