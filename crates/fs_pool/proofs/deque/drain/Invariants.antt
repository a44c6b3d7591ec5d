use Rattle.std.proofs.Common.{◌≡◌, ◌+◌, ◌-◌, ◌^◌, ℕ, true, length}
use Rattle.crossbeam_deque.specs.Handles.{worker_view, worker_flavor, view}
use Rattle.fs_pool.specs.Ring.{count_of}
use Rattle.fs_pool.proofs.deque.drain.Given as goal

abbrev pub invariant-loop-number : goal.invariant-loop-number
invariant-loop-number l = record {
  owns : (worker_view l.owner).owns ≡ true;
  steals : (worker_view l.owner).steals ≡ true;
  fifo : worker_flavor l.owner ≡ 0;
  pushed : (worker_view l.owner).pushed ≡ (worker_view l.fn.owner).pushed;
  stolen : (worker_view l.owner).stolen ≡ (view l.fn.right).stolen;
  popped : (x : ℕ) → count_of x (worker_view l.owner).popped + count_of x l.initial.numbers.items ≡ count_of x (worker_view l.fn.owner).popped + count_of x l.numbers.items;
}

abbrev pub decreases-loop-number : goal.decreases-loop-number
decreases-loop-number l = 2 ^ 64 - length l.numbers.items
