use Rattle.std.proofs.Common.{◌≡◌, map, take, string_bytes}
use Rattle.fs_app_sites.specs.Sites.{part_of}
use Rattle.fs_app_sites_check_and_audit.proofs.asked.parts_of.Given as goal

-- the parts of the files so far
abbrev pub invariant-loop-here : goal.invariant-loop-here
invariant-loop-here l =
    l.parts.items ≡ map (part_of (map string_bytes l.names)) (map (λ h. h.asked) (take l.here-index l.held))
