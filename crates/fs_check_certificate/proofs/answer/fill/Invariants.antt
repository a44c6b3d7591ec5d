use Rattle.std.proofs.Common.{map, string_bytes}
use Rattle.fs_check_certificate.proofs.Filled.{Going}
use Rattle.fs_check_certificate.proofs.answer.fill.Given as goal

-- the first slots are done, with the first words
abbrev pub invariant-loop-slot : goal.invariant-loop-slot
invariant-loop-slot l = Going l.offers l.slots (map string_bytes l.words) l.slot-index l.used l.placement
