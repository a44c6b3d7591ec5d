use Rattle.std.proofs.Common.{◌≡◌, ◌+◌, ℕ, true, Some, length}
use Rattle.std.specs.Prelude.{slice_get}
use Rattle.crossbeam_deque.specs.Handles.{view, worker_deque, worker_view, worker_flavor}
use Rattle.fs_pool.specs.Ring.{Hand, count_of, total_of}
use Rattle.fs_pool.proofs.ring.drain_all.Given as goal

abbrev pub invariant-loop-hand : goal.invariant-loop-hand
invariant-loop-hand l = record {
  owns : (worker_view l.owner).owns ≡ true;
  fifo : worker_flavor l.owner ≡ 0;
  rest : (k : ℕ) (h : Hand) → slice_get l.hands.items k ≡ Some h → slice_get l.fn.hands.items k ≡ Some h;
  here : (g : Hand) × (slice_get l.fn.hands.items (length l.hands.items) ≡ Some g) × (worker_deque l.owner ≡ g.own);
  left : (x : ℕ)
      → total_of x (λ h. h.pushed) l.fn.hands.items
      + (count_of x (worker_view l.owner).popped + total_of x (λ h. h.popped) l.hands.items + count_of x (view l.first_right).stolen + total_of x (λ h. h.stolen) l.hands.items)
      ≡ total_of x (λ h. h.popped) l.fn.hands.items + total_of x (λ h. h.stolen) l.fn.hands.items + count_of x l.numbers.items
      + (count_of x (worker_view l.owner).pushed + total_of x (λ h. h.pushed) l.hands.items);
}

abbrev pub decreases-loop-hand : goal.decreases-loop-hand
decreases-loop-hand l = length l.hands.items
