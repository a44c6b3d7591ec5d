use Rattle.fs_pool.specs.Ring.{AreLinked}
use Rattle.fs_tests_out_of_memory.proofs.rings.left.Given as goal

abbrev pub invariant-loop-place : goal.invariant-loop-place
invariant-loop-place g l = AreLinked l.ring.items
