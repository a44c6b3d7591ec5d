use Rattle.std.proofs.Common.{◌≡◌}
use Rattle.fs_pool_workers.proofs.work.Workplace.rounds.Given as goal

abbrev pub invariant-loop : goal.invariant-loop
invariant-loop g l = l.scout ≡ l.initial.scout
