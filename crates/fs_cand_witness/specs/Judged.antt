-- What a judgment says.
use Rattle.std.specs.Prelude.{ℕ, ◌≤◌, List, take}
use Rattle.fs_cand_witness.specs.Edges.{has_edge}
use Rattle.fs_cand_witness.specs.Orders.{IsOrderBelow, IsCycleBelow}
use Rattle.fs_cand_witness.specs.declared.cycles.Judged.{Judged}
use Rattle.fs_cand_witness.specs.declared.cycles.Judged.TheVariants.{Order, Cycle}

-- the first n numbers are an order, or the first `len` are a cycle
abbrev pub IsJudged : List ℕ → ℕ → Judged → Type 0
IsJudged rows n (Order order) = IsOrderBelow (has_edge rows) n (take n order)
IsJudged rows n (Cycle cycle len) = (len ≤ n) × IsCycleBelow (has_edge rows) n (take len cycle)
