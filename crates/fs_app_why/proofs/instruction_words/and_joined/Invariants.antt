use Rattle.std.proofs.Common.{◌≡◌, flat_map, length, take, string_bytes}
use Rattle.std.specs.List.{enumerate_from}
use Rattle.fs_app_why.specs.InstructionWords.{separated}
use Rattle.fs_app_why.proofs.instruction_words.and_joined.Given as goal

-- the pieces so far
abbrev pub invariant-loop-number : goal.invariant-loop-number
invariant-loop-number l =
    string_bytes l.text ≡ flat_map (separated (length l.pieces)) (take l.number (enumerate_from 0 l.pieces))
