use Rattle.std.proofs.Common.{List, map}
use Rattle.std.specs.Arc.{arc_value}
use Rattle.fs_kinds.specs.declared.slot.Slot.{Slot}
use Rattle.fs_model.specs.declared.test.Test.{Test}
use Rattle.fs_board.specs.Growth.{AreWitnesses}
use Rattle.fs_board_search.proofs.store.Store.take_greedily.Given as goal

abbrev pub invariant-loop-found : goal.invariant-loop-found
invariant-loop-found l = (t : Test) (ss : List Slot) → AreWitnesses t ss l.self → AreWitnesses t ss (map arc_value l.picked.items)
