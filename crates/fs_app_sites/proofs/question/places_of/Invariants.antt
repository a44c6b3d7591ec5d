use Rattle.std.proofs.Common.{◌≡◌, map, take, string_bytes}
use Rattle.fs_app_sites.specs.Sites.{copy_value, places_of}
use Rattle.fs_app_sites.proofs.question.places_of.Given as goal

-- the places of the copies so far
abbrev pub invariant-loop-copy : goal.invariant-loop-copy
invariant-loop-copy l = l.places.items ≡ places_of (map string_bytes l.names) (map copy_value (take l.copy-index l.copies))
