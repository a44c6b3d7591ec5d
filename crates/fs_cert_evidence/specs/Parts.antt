-- Partial placements: each slot is undecided, or decided with a kind or none.
use Rattle.std.specs.Prelude.{Bool, true, ◌&&◌, Option, None, Some, is_none, unwrap_or, if◌then◌else◌, List, [], ◌∷◌, map, filter, ◌==◌, false}
use Rattle.std.specs.List.{list_any}
use Rattle.fs_kinds.specs.declared.kind.Kind.{Kind}
use Rattle.fs_kinds.specs.declared.kind.Kind.TheVariants.{RwRw}
use Rattle.fs_kinds.specs.declared.placement.Entry.{Entry}
use Rattle.fs_kinds.specs.declared.slot.Slot.{Slot}
use Rattle.fs_kinds.specs.Kind.{all_kinds}
use Rattle.fs_kinds.specs.Placement.{rank}
use Rattle.fs_kinds.specs.PriceTable.{PriceTable, is_offered}
use Rattle.fs_kinds.specs.Slot.{is_same_slot}

pub record Decision : Type 0 where
  pub slot : Slot
  pub decided : Option (Option Kind)

abbrev pub Part : Type 0
Part = List Decision

abbrev pub filled_with : Option Kind → Part → List Entry
filled_with kind = map (λ d. record { slot = d.slot; kind = unwrap_or d.decided kind })

-- The decided slots with none elsewhere: the least completion, since none costs nothing and is before each kind. And
-- the decided slots with rw,rw elsewhere.
abbrev pub floor : Part → List Entry
floor = filled_with None

abbrev pub filled : Part → List Entry
filled = filled_with (Some RwRw)

-- the decision leaves it open to have this kind or none
abbrev pub agrees : Option (Option Kind) → Option Kind → Bool
agrees None kind = true
agrees (Some decided) kind = rank decided == rank kind

-- the placement is a completion of the part: it has the part's slots, and at each decided one what is decided
abbrev pub is_under : Part → List Entry → Bool
is_under [] [] = true
is_under (d ∷ part) (e ∷ p) = is_same_slot d.slot e.slot && agrees d.decided e.kind && is_under part p
is_under _ _ = false

-- the slot is one of the part's, and undecided
abbrev pub is_undecided : Slot → Part → Bool
is_undecided slot = list_any (λ d. is_same_slot d.slot slot && is_none d.decided)

abbrev pub decide : Slot → Part → Option Kind → Part
decide slot part kind = map (λ d. if is_same_slot d.slot slot then record { slot = d.slot; decided = Some kind } else d) part

-- none, and then the offered kinds in table order
abbrev pub options : PriceTable → List (Option Kind)
options prices = None ∷ filter (is_offered prices) (map (λ kind. Some kind) all_kinds)
