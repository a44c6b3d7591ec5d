use Rattle.std.proofs.Common.{◌≡◌, ℕ, take}
use Rattle.std.specs.List.{list_any}
use Rattle.fs_cand_witness.specs.Edges.{has_edge}
use Rattle.fs_cand_witness.specs.Fencing.{orders_at}
use Rattle.fs_cand_witness.proofs.fences.fence_rows.Given as goal

-- the edges of the sides so far
abbrev pub invariant-loop-side : goal.invariant-loop-side
invariant-loop-side l = (a b : ℕ) → has_edge l.rows a b ≡ list_any (orders_at l.placement a b) (take l.side-index l.sides)
