use Rattle.std.proofs.Common.{◌≡◌, map, string_bytes, take}
use Rattle.fs_cert_evidence.specs.Certificate.{fence_words}
use Rattle.fs_cert.proofs.answered.words_of.Given as goal

-- the words of those so far
abbrev pub invariant-loop-entry : goal.invariant-loop-entry
invariant-loop-entry l = map string_bytes l.words.items ≡ fence_words (take l.entry-index l.entries)
