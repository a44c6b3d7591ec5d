use Rattle.std.proofs.Common.{◌≡◌, ◌+◌, true, false, [], length}
use Rattle.crossbeam_deque.specs.Handles.{worker_deque, stealer_deque, worker_view, worker_flavor}
use Rattle.fs_pool.specs.inner.Conserved.{tally}
use Rattle.fs_pool.proofs.Rings.{AreChained}
use Rattle.fs_pool.proofs.ring.hands.Given as goal

abbrev pub invariant-loop-number : goal.invariant-loop-number
invariant-loop-number l = record {
  fresh : worker_view l.owner ≡ tally true false [] [] [];
  fifo : worker_flavor l.owner ≡ 0;
  count : length l.hands.items + 1 ≡ l.number;
  chained : AreChained l.workers l.hands.items (worker_deque l.owner) (stealer_deque l.last_thief);
}
