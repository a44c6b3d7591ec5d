use Rattle.std.proofs.Common.{◌≡◌, map, string_bytes, drop}
use Rattle.std.specs.List.{position_from}
use Rattle.std.specs.Str.{bytes_eq}
use Rattle.fs_app_sites.specs.Sites.{number_of}
use Rattle.fs_app_sites.proofs.names.number_of.Given as goal

-- what is found in the names that are left is what is found in all
abbrev pub invariant-loop-number : goal.invariant-loop-number
invariant-loop-number l = position_from (λ known. bytes_eq known l.name) l.number (map string_bytes (drop l.number l.names)) ≡ number_of (map string_bytes l.names) l.name
