-- The limits of what a caller gives as prices.
use Rattle.std.specs.Prelude.{ℕ, ◌≤◌, IsSome, IfSome}
use Rattle.fs_kinds.specs.declared.kind.Kind.{Kind}
use Rattle.fs_kinds.specs.declared.kind.Kind.TheVariants.{RwRw}
use Rattle.fs_kinds.specs.declared.slot.Slot.{Slot}
pub use Rattle.fs_kinds.specs.Placements.{PriceTable, price_of, weight_of, is_offered, are_offered, kind_cost, entry_cost, cost}

abbrev pub most_price : ℕ
most_price = 1000000

abbrev pub most_weight : ℕ
most_weight = 1000

pub record IsPriceTable (t : PriceTable) : Type 0 where
  pub price : (kind : Kind) → IfSome (price_of t kind) (λ n. (1 ≤ n) × (n ≤ most_price))
  pub weight : (s : Slot) → weight_of t s ≤ most_weight
  pub top : IsSome (price_of t RwRw)
