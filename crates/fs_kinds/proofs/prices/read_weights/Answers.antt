use Rattle.std.proofs.Common.{refl, ◌≡◌, ◌≢◌, ◌≤◌, ◌∷◌, Bool, true, false, Some, string_bytes, unwrap_or, sym, ap, ◌∙◌, if◌then◌else◌}
use Rattle.std.specs.Map.{lookup}
use Rattle.serde_json.specs.View.{view}
use Rattle.fs_kinds.specs.declared.slot.Slot.{Slot}
use Rattle.fs_kinds.specs.Slot.{IsSlot, slot_name, is_same_slot}
use Rattle.fs_kinds.specs.PriceTable.{most_weight}
use Rattle.fs_kinds.specs.PriceObject.{IsWeight, whole}
use Rattle.fs_kinds.proofs.Names.{slot_name-injective}
use Rattle.fs_kinds.proofs.Members.{Rest, Finds, rest-next, finds-same, finds-other, whole-within}
use Rattle.fs_kinds.proofs.SlotMap.{lookup-inserted, same_slot, is_same_slot-refl}
use Rattle.fs_kinds.proofs.prices.read_weights.Goals as goal

inserted : (c : goal.In_ok-insert) (s : Slot) → lookup (is_same_slot s) c.insert.new.self.entries ≡ (if is_same_slot c.in_ok-slot.slot s then Some c.in_ok-slot.weight else lookup (is_same_slot s) c.loop-name.weights.entries)
inserted c s = lookup-inserted s c.in_ok-slot.slot c.in_ok-slot.weight c.loop-name.weights c.insert.new.self (c.in_ok-insert.ensures.updates.0 s)

named : (c : goal.In_ok-insert) → string_bytes c.in-Some-2.name.now ≡ slot_name c.in_ok-slot.slot
named c = sym c.as_str.ensures.value ∙ c.in_ok-slot.ensures.slot.1

weight : (c : goal.In_ok-insert) → IsWeight (string_bytes c.in-Some-2.name.now) (view c.in-Some-2.value.now)
weight c = (c.in_ok-slot.slot, c.in_ok-slot.ensures.slot.0, named c, rw c.in_ok-slot.ensures.weight refl)

rest : (c : goal.In_ok-insert) → Rest IsWeight c.into_iter-name-iterator.result ((c.in-Some-2.name.now, c.in-Some-2.value.now) ∷ c.next.new.self)
rest c = rw c.in-Some-2.ensures.steps at c.loop-name.invariant.rest

found : (c : goal.In_ok-insert) (s : Slot) → IsSlot s → (b : Bool) → is_same_slot c.in_ok-slot.slot s ≡ b → Finds (slot_name s) (whole 0 most_weight) c.into_iter-name-iterator.result c.next.new.self (if b then Some c.in_ok-slot.weight else lookup (is_same_slot s) c.loop-name.weights.entries)
found c s is true same =
    let before = rw c.in-Some-2.ensures.steps at (c.loop-name.invariant.finds s is) in
    let key : slot_name s ≡ string_bytes c.in-Some-2.name.now = sym (ap slot_name (same_slot c.in_ok-slot.slot s same)) ∙ sym (named c) in
    rw (← c.in_ok-slot.ensures.weight)
    (finds-same (slot_name s) (whole 0 most_weight) c.into_iter-name-iterator.result (c.in-Some-2.name.now, c.in-Some-2.value.now) c.next.new.self _ (rest c).sorted before key)
found c s is false apart =
    let before = rw c.in-Some-2.ensures.steps at (c.loop-name.invariant.finds s is) in
    let key : slot_name s ≢ string_bytes c.in-Some-2.name.now = (λ e.
    let same : s ≡ c.in_ok-slot.slot = slot_name-injective s c.in_ok-slot.slot is c.in_ok-slot.ensures.slot.0 (e ∙ named c) in
    let told = ap (λ t. is_same_slot t s) same in
    let refl-told = is_same_slot-refl s in
    cc) in
    finds-other (slot_name s) (whole 0 most_weight) c.into_iter-name-iterator.result (c.in-Some-2.name.now, c.in-Some-2.value.now) c.next.new.self _ before key

most : (c : goal.In_ok-insert) (s : Slot) (b : Bool) → unwrap_or (if b then Some c.in_ok-slot.weight else lookup (is_same_slot s) c.loop-name.weights.entries) 1 ≤ most_weight
most c s true = (whole-within 0 most_weight (view c.in-Some-2.value.now) c.in_ok-slot.weight c.in_ok-slot.ensures.weight).1
most c s false = c.loop-name.invariant.most s

pub loop-name-preserved : goal.loop-name-preserved
loop-name-preserved c = record {
  rest = rest-next IsWeight c.into_iter-name-iterator.result (c.in-Some-2.name.now, c.in-Some-2.value.now) c.next.new.self (rest c) (weight c);
  finds = λ s is. rw (inserted c s) (found c s is (is_same_slot c.in_ok-slot.slot s) refl);
  most = λ s. rw (inserted c s) (most c s (is_same_slot c.in_ok-slot.slot s));
}
