use Rattle.std.proofs.Common.{◌≡◌}
use Rattle.fs_pool_workers.proofs.work.Workplace.settle.Given as goal

abbrev pub invariant-loop-way : goal.invariant-loop-way
invariant-loop-way g l = l.scout ≡ l.initial.scout
