-- How what is decided is put into a placement, slot by slot.
use Rattle.std.specs.Prelude.{Option, None, Some, List, [], ◌∷◌}
use Rattle.fs_kinds.specs.declared.kind.Kind.{Kind}
use Rattle.fs_kinds.specs.declared.placement.Entry.{Entry}
use Rattle.fs_kinds.specs.declared.slot.Slot.{Slot}
use Rattle.fs_kinds.specs.Placement.{with_kind}
use Rattle.fs_board_offers.specs.Parts.{Part, Decision}

abbrev pub put_kind : Slot → Option (Option Kind) → List Entry → List Entry
put_kind slot None p = p
put_kind slot (Some kind) p = with_kind slot kind p

abbrev pub put_at : Decision → List Entry → List Entry
put_at d p = put_kind d.slot d.decided p

abbrev pub put_all : Part → List Entry → List Entry
put_all [] p = p
put_all (d ∷ part) p = put_all part (put_at d p)
