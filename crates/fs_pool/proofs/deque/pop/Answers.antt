use Rattle.fs_pool.proofs.Moves.{pops}
use Rattle.fs_pool.proofs.deque.pop.Goals as goal

pub pop_as-requires-clause-fifo : goal.pop_as-requires-clause-fifo
pop_as-requires-clause-fifo c = λ _. pops _ _ c.requires.owns
