use Rattle.std.proofs.Common.{◌≡◌, map, take, string_bytes}
use Rattle.fs_app_sites.specs.Sited.{word_of}
use Rattle.fs_app_sites.proofs.words.read_words.Given as goal

-- those of the words so far
abbrev pub invariant-loop-word : goal.invariant-loop-word
invariant-loop-word l = map (word_of (map string_bytes l.names)) l.fences.items ≡ map string_bytes (take l.word-index l.words)
