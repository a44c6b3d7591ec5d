use Rattle.std.proofs.Common.{ap}
use Rattle.fs_pool.specs.declared.deque.Tally.{Tally}
use Rattle.fs_pool.proofs.Moves.{begins, forks}
use Rattle.fs_pool.proofs.deque.new_deque.Goals as goal

pub fifo_as-requires : goal.fifo_as-requires
fifo_as-requires c = begins

pub another-right-requires : goal.another-right-requires
another-right-requires c =
    let h = c.in_ok-owner.ensures.4 in forks _ _ (ap (λ (v : Tally). v.owns) h) (ap (λ (v : Tally). v.steals) h)
