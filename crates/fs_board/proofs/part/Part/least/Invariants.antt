use Rattle.std.proofs.Common.{◌≡◌, take}
use Rattle.fs_board_offers.specs.Parts.{floor}
use Rattle.fs_board.proofs.part.Part.least.Given as goal

abbrev pub invariant-loop-decision : goal.invariant-loop-decision
invariant-loop-decision l = l.entries.items ≡ floor (take l.decision-index l.self)
