use Rattle.std.proofs.Common.{◌≡◌, map, drop, string_bytes}
use Rattle.fs_app_sites.specs.Sites.{copy_value, with_copies}
use Rattle.fs_app_sites.proofs.names.add_copies.Given as goal

-- with the names of the copies that are left they are those with all
abbrev pub invariant-loop-copy : goal.invariant-loop-copy
invariant-loop-copy l =
    with_copies (map string_bytes l.names.items) (map copy_value (drop l.copy-index l.copies))
    ≡ with_copies (map string_bytes l.initial.names.items) (map copy_value l.copies)
