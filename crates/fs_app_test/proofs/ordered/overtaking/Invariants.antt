use Rattle.std.proofs.Common.{◌≡◌, drop}
use Rattle.fs_app_test.specs.Words.{overtaking}
use Rattle.fs_app_test.proofs.ordered.overtaking.Given as goal

-- of what is left the first is the first of all
abbrev pub invariant-loop-index : goal.invariant-loop-index
invariant-loop-index l = overtaking (drop l.index l.order) ≡ overtaking l.order
