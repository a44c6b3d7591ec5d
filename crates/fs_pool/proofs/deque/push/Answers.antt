use Rattle.fs_pool.proofs.Moves.{pushes}
use Rattle.fs_pool.proofs.deque.push.Goals as goal

pub push_as-requires-clause-pushes : goal.push_as-requires-clause-pushes
push_as-requires-clause-pushes c = pushes _ _ _ c.requires
