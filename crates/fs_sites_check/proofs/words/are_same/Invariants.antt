use Rattle.std.proofs.Common.{◌≡◌, map, take, string_bytes}
use Rattle.fs_sites_check.proofs.words.are_same.Given as goal

abbrev pub invariant-loop-number : goal.invariant-loop-number
invariant-loop-number l = map string_bytes (take l.number l.words) ≡ map string_bytes (take l.number l.others)
