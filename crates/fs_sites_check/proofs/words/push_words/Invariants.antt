use Rattle.std.proofs.Common.{◌≡◌, ◌++◌, map, drop, string_bytes}
use Rattle.fs_sites_check.specs.Valid.{site_words}
use Rattle.fs_sites_check.proofs.words.push_words.Given as goal

-- with the words of the sites that are left they are all
abbrev pub invariant-loop-entry : goal.invariant-loop-entry
invariant-loop-entry l =
    map string_bytes l.words.items ++ site_words (drop l.entry-index l.entries) (map string_bytes l.names)
    ≡ map string_bytes l.initial.words.items ++ site_words l.entries (map string_bytes l.fn.names)
