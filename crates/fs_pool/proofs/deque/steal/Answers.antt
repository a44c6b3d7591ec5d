use Rattle.fs_pool.proofs.Moves.{steals}
use Rattle.fs_pool.proofs.deque.steal.Goals as goal

pub steal_as-requires-clause-takes : goal.steal_as-requires-clause-takes
steal_as-requires-clause-takes c = steals _ _ c.requires.steals
