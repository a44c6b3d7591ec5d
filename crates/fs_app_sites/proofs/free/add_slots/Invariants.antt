use Rattle.std.proofs.Common.{◌≡◌, map, drop}
use Rattle.fs_app_sites.specs.Sites.{copy_value, with_slots}
use Rattle.fs_app_sites.proofs.free.add_slots.Given as goal

-- with the slots that are left they are those with all
abbrev pub invariant-loop-slot : goal.invariant-loop-slot
invariant-loop-slot l =
    with_slots l.prefix (map copy_value l.copies.items) (drop l.slot-index l.slot-items)
    ≡ with_slots l.prefix (map copy_value l.initial.copies.items) l.slot-items
