use Rattle.std.proofs.Common.{◌≤◌, unwrap_or}
use Rattle.std.specs.Map.{lookup}
use Rattle.fs_kinds.specs.declared.slot.Slot.{Slot}
use Rattle.fs_kinds.specs.Slot.{IsSlot, slot_name, is_same_slot}
use Rattle.fs_kinds.specs.PriceTable.{most_weight}
use Rattle.fs_kinds.specs.PriceObject.{IsWeight, whole}
use Rattle.fs_kinds.proofs.Members.{Rest, Finds}
use Rattle.fs_kinds.proofs.prices.read_weights.Given as goal

-- the members so far are weights, and those of the slots that they name
abbrev pub invariant-loop-name : goal.invariant-loop-name
invariant-loop-name l = record {
  rest : Rest IsWeight l.initial.name-iterator l.name-iterator;
  finds : (s : Slot) → IsSlot s → Finds (slot_name s) (whole 0 most_weight) l.initial.name-iterator l.name-iterator (lookup (is_same_slot s) l.weights.entries);
  most : (s : Slot) → unwrap_or (lookup (is_same_slot s) l.weights.entries) 1 ≤ most_weight;
}
