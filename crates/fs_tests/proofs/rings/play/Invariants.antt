use Rattle.fs_pool.specs.Ring.{AreLinked}
use Rattle.fs_tests.proofs.rings.play.Given as goal

abbrev pub invariant-loop-place : goal.invariant-loop-place
invariant-loop-place l = AreLinked l.ring.items
