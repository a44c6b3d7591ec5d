use Rattle.std.proofs.Common.{◌≡◌, map, take, string_bytes}
use Rattle.fs_app_sites.specs.Sites.{part_of}
use Rattle.fs_app_sites.proofs.question.parts_of.Given as goal

-- the parts of the files so far
abbrev pub invariant-loop-content : goal.invariant-loop-content
invariant-loop-content l = l.parts.items ≡ map (part_of (map string_bytes l.names)) (take l.content-index l.contents)
