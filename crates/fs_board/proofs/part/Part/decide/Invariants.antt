use Rattle.std.proofs.Common.{◌≡◌, take}
use Rattle.fs_board_offers.specs.Parts.{decide}
use Rattle.fs_board.proofs.part.Part.decide.Given as goal

abbrev pub invariant-loop-decision : goal.invariant-loop-decision
invariant-loop-decision l = l.decisions.items ≡ decide l.slot (take l.decision-index l.self) l.kind
