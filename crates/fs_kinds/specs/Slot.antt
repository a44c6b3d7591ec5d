-- Slots: their names and their order.
use Rattle.std.specs.Prelude.{ℕ, List, [], ◌∷◌, ◌++◌, Bool, true, ◌&&◌, ◌||◌, ◌==◌, nat_lt, ◌<◌, codes}
use Rattle.std.specs.Fmt.{decimal}
use Rattle.std.specs.List.{list_all}
use Rattle.fs_kinds.specs.declared.kind.Kind.{Kind}
use Rattle.fs_kinds.specs.declared.slot.Slot.{Slot}
use Rattle.fs_kinds.specs.Kind.{word}
pub use Rattle.fs_kinds.specs.Placements.{is_same_slot}

-- the instruction number `at` of a hart, such as `P0:3`
abbrev pub place_name : ℕ → ℕ → List ℕ
place_name hart at = codes "P" ++ decimal hart ++ codes ":" ++ decimal at

abbrev pub slot_name : Slot → List ℕ
slot_name s = place_name s.hart s.at

-- both numbers are of one byte
abbrev pub IsSlot : Slot → Type 0
IsSlot s = (s.hart < 256) × (s.at < 256)

-- a placed fence, such as `P0:3=w,w`
abbrev pub fence_word : Slot → Kind → List ℕ
fence_word s kind = slot_name s ++ codes "=" ++ word kind

-- by hart, then by instruction
abbrev pub is_before : Slot → Slot → Bool
is_before s t = nat_lt s.hart t.hart || (s.hart == t.hart) && nat_lt s.at t.at

-- each slot is before all later ones
abbrev pub is_rising : List Slot → Bool
is_rising [] = true
is_rising (s ∷ slots) = list_all (is_before s) slots && is_rising slots
