use Rattle.std.proofs.Common.{◌≡◌, take, map}
use Rattle.std.specs.Arc.{arc_value}
use Rattle.fs_board.proofs.board.share.Given as goal

abbrev pub invariant-loop-witness : goal.invariant-loop-witness
invariant-loop-witness l = map arc_value l.shared.items ≡ map arc_value (take l.witness-index l.witnesses)
