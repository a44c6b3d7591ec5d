-- Partial placements of offers.
use Rattle.std.specs.Prelude.{None, unwrap_or, List, map}
use Rattle.fs_kinds.specs.declared.placement.Entry.{Entry}
use Rattle.fs_kinds.specs.declared.slot.Slot.{Slot}
pub use Rattle.fs_cert_evidence.specs.Parts.{Decision, Part, filled_with, floor, filled, agrees, is_under, is_undecided, decide}
use Rattle.fs_board_offers.specs.Offers.{Offers, slots, offer_at, options, first_kind}

-- the slots of a part
abbrev pub slots_in_part : Part → List Slot
slots_in_part = map (λ d. d.slot)

abbrev pub undecided : Offers → Part
undecided offers = map (λ slot. record { slot = slot; decided = None }) (slots offers)

-- the slot decided in each way that is offered there
abbrev pub child_parts : Offers → Slot → Part → List Part
child_parts offers slot part = map (decide slot part) (options (offer_at offers slot))

-- The decided slots, with what comes first elsewhere: no completion is before it. Of those that cost the least the
-- floor is the first.
abbrev pub earliest : Offers → Part → List Entry
earliest offers = map (λ d. record { slot = d.slot; kind = unwrap_or d.decided (first_kind (offer_at offers d.slot)) })
