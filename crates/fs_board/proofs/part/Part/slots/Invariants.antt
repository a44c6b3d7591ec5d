use Rattle.std.proofs.Common.{◌≡◌, take}
use Rattle.fs_board_offers.specs.Parts.{slots_in_part}
use Rattle.fs_board.proofs.part.Part.slots.Given as goal

abbrev pub invariant-loop-decision : goal.invariant-loop-decision
invariant-loop-decision l = l.slots.items ≡ slots_in_part (take l.decision-index l.self)
