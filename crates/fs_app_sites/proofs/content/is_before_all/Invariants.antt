use Rattle.std.proofs.Common.{◌≡◌, map, drop}
use Rattle.std.specs.List.{list_all}
use Rattle.fs_kinds.specs.Slot.{is_before}
use Rattle.fs_app_sites.specs.Sites.{copy_value, slots_of}
use Rattle.fs_app_sites.proofs.content.is_before_all.Given as goal

-- it is so of all where it is of those that are left
abbrev pub invariant-loop-copy : goal.invariant-loop-copy
invariant-loop-copy l =
    list_all (is_before l.slot) (slots_of (map copy_value (drop l.copy-index l.copies)))
    ≡ list_all (is_before l.slot) (slots_of (map copy_value l.copies))
