-- Placements: changes at a slot, and which are weaker.
use Rattle.std.specs.Prelude.{List, map, Bool, false, Option, None, Some, if◌then◌else◌}
use Rattle.std.specs.List.{list_any, list_all, zip}
use Rattle.fs_kinds.specs.declared.kind.Kind.{Kind}
use Rattle.fs_kinds.specs.declared.slot.Slot.{Slot}
use Rattle.fs_kinds.specs.declared.placement.Entry.{Entry}
use Rattle.fs_kinds.specs.Kind.{Pair, pairs_of, is_subset}
use Rattle.fs_kinds.specs.Placements.{is_same_slot}
pub use Rattle.fs_kinds.specs.Placements.{slots_of, kind_at, rank, precedes}

-- the same at each slot
abbrev pub all_with : Option Kind → List Slot → List Entry
all_with kind = map (λ s. record { slot = s; kind = kind })

abbrev pub has_slot : Slot → List Entry → Bool
has_slot s = list_any (λ e. is_same_slot e.slot s)

abbrev pub entry_with : Slot → Option Kind → Entry → Entry
entry_with s kind e = if is_same_slot e.slot s then record { slot = e.slot; kind = kind } else e

-- the kind put at the slot
abbrev pub with_kind : Slot → Option Kind → List Entry → List Entry
with_kind s kind = map (entry_with s kind)

-- the pairs of operations that a slot keeps in order
abbrev pub pairs_kept : Option Kind → Pair → Bool
pairs_kept None pair = false
pairs_kept (Some kind) pair = pairs_of kind pair

-- slot by slot a subset
abbrev pub keeps_no_more : Entry × Entry → Bool
keeps_no_more (e, f) = is_subset (pairs_kept e.kind) (pairs_kept f.kind)

abbrev pub is_weaker : List Entry → List Entry → Bool
is_weaker p q = list_all keeps_no_more (zip p q)
