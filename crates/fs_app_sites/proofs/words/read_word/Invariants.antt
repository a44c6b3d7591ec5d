use Rattle.std.proofs.Common.{◌≢◌, ◌<◌, ℕ, [], map, string_bytes}
use Rattle.std.specs.Prelude.{slice_index_or}
use Rattle.fs_kinds.specs.declared.kind.Kind.{Kind}
use Rattle.fs_app_sites.specs.Sited.{site_word}
use Rattle.fs_app_sites.proofs.words.read_word.Given as goal

-- it is no word of the sites so far
abbrev pub invariant-loop-number : goal.invariant-loop-number
invariant-loop-number l =
    (number : ℕ) → number < l.number → (kind : Kind) → l.word ≢ site_word (slice_index_or (map string_bytes l.names) number []) kind
