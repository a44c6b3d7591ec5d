use Rattle.fs_pool.specs.Ring.{IsSameHand}
use Rattle.fs_tests_out_of_memory.proofs.rings.push_many.Given as goal

-- it is still the same hand
abbrev pub invariant-loop-number : goal.invariant-loop-number
invariant-loop-number g l = IsSameHand l.initial.hand l.hand
