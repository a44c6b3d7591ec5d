use Rattle.std.proofs.Common.{◌≡◌}
use Rattle.fs_pool.specs.Receiving.{first_passes}
use Rattle.fs_pool.proofs.desk.Desk.new.Given as goal

abbrev pub invariant-loop-worker : goal.invariant-loop-worker
invariant-loop-worker g l = l.passes.items ≡ first_passes l.worker
