use Rattle.std.proofs.Common.{List, map}
use Rattle.std.specs.Arc.{arc_value}
use Rattle.fs_kinds.specs.declared.slot.Slot.{Slot}
use Rattle.fs_model.specs.declared.test.Test.{Test}
use Rattle.fs_board.specs.Growth.{AreWitnesses}
use Rattle.fs_board_search.proofs.scout.keep_all.Given as goal

abbrev pub invariant-loop-witness : goal.invariant-loop-witness
invariant-loop-witness l =
    (t : Test) (ss : List Slot) → AreWitnesses t ss (map arc_value l.witnesses) → AreWitnesses t ss l.initial.store → AreWitnesses t ss l.store
