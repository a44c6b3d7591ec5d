use Rattle.std.proofs.Common.{◌≡◌, length}
use Rattle.fs_model_brute_force.specs.Allowing.{AreListed}
use Rattle.fs_model_brute_force.proofs.allowing.runs_over.Given as goal

-- the lists of the harts so far
abbrev pub invariant-loop-hart : goal.invariant-loop-hart
invariant-loop-hart l = (length l.lists.items ≡ l.hart) × AreListed l.test l.sets l.lists.items
