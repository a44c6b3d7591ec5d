use Rattle.std.proofs.Common.{◌≡◌, ◌≤◌, None, IfSome, unwrap_or, get_or, length}
use Rattle.std.specs.Map.{lookup}
use Rattle.fs_kinds.specs.declared.kind.Kind.{Kind}
use Rattle.fs_kinds.specs.declared.slot.Slot.{Slot}
use Rattle.fs_kinds.specs.Kind.{table_index, word}
use Rattle.fs_kinds.specs.Slot.{IsSlot, is_same_slot}
use Rattle.fs_kinds.specs.PriceTable.{most_price, most_weight}
use Rattle.fs_kinds.specs.PriceObject.{IsPriceMember, whole, weight_at, weights_key}
use Rattle.fs_kinds.proofs.Members.{Rest, Finds}
use Rattle.fs_kinds.proofs.prices.prices_of.Given as goal

-- the members so far are prices, and the table has what they give
abbrev pub invariant-loop-name : goal.invariant-loop-name
invariant-loop-name l = record {
  rest : Rest IsPriceMember l.initial.name-iterator l.name-iterator;
  table : length l.prices ≡ 10;
  price : (kind : Kind) → Finds (word kind) (whole 1 most_price) l.initial.name-iterator l.name-iterator (get_or l.prices (table_index kind) None);
  weight : (s : Slot) → IsSlot s → Finds weights_key (weight_at s) l.initial.name-iterator l.name-iterator (lookup (is_same_slot s) l.weights.entries);
  in_range : (kind : Kind) → IfSome (get_or l.prices (table_index kind) None) (λ n. (1 ≤ n) × (n ≤ most_price));
  most : (s : Slot) → unwrap_or (lookup (is_same_slot s) l.weights.entries) 1 ≤ most_weight;
}
