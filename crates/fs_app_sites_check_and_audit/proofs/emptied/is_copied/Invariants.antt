use Rattle.std.proofs.Common.{◌≡◌, map, drop}
use Rattle.fs_app_sites.specs.Sites.{copy_value}
use Rattle.fs_app_sites_check_and_audit.specs.Copies.{is_copied}
use Rattle.fs_app_sites_check_and_audit.proofs.emptied.is_copied.Given as goal

-- it is so of all where it is of those that are left
abbrev pub invariant-loop-copy : goal.invariant-loop-copy
invariant-loop-copy l =
    is_copied (map copy_value (drop l.copy-index l.copies)) l.slot ≡ is_copied (map copy_value l.copies) l.slot
