use Rattle.std.proofs.Common.{◌≡◌, map, take, string_bytes}
use Rattle.fs_model.specs.Placed.{word_of}
use Rattle.fs_model.proofs.words.read_words.Given as goal

abbrev pub invariant-loop-word : goal.invariant-loop-word
invariant-loop-word l = map word_of l.fences.items ≡ map string_bytes (take l.word-index l.words)
