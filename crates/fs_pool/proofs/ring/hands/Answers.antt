use Rattle.std.proofs.Common.{◌≡◌, ◌-◌, List, length, ap, refl, arith, length-append, [], ◌∷◌}
use Rattle.crossbeam_deque.specs.Handles.{worker_deque, stealer_deque, worker_view, view}
use Rattle.fs_pool.specs.declared.deque.Tally.{Tally}
use Rattle.fs_pool.specs.Ring.{Hand, Deque}
use Rattle.fs_pool.proofs.Rings.{AreChained, chained_more, chained_linked, chained_all}
use Rattle.fs_pool.proofs.ring.hands.Goals as goal
use Rattle.fs_pool.proofs.ring.hands.Goals.{In_ok-push-2}

pub loop-number-preserved : goal.loop-number-preserved
loop-number-preserved c =
    let i = c.loop-number.invariant in
    let hs : List Hand = c.loop-number.hands.items in
    let number : c.loop-number.number - 1 ≡ length hs = (let n = i.count in omega arith) in
    record {
      fresh = c.in_ok-next.ensures.tallies.0;
      fifo = c.in_ok-next.ensures.deque.2;
      count = (let n = i.count in omega (arith, ap length c.in_ok-push.ensures.items, length-append hs (c.new.result ∷ [])));
      chained = chained_more c.args.workers hs c.push.new.self.items c.new.result (worker_deque c.loop-number.owner) (stealer_deque c.in_ok-next.thief) (worker_deque c.in_ok-next.next) (stealer_deque c.in_ok-first.last_thief) (c.loop-number.number - 1)
          (worker_view c.loop-number.owner).pushed (worker_view c.loop-number.owner).popped (view c.in_ok-next.right).stolen i.chained c.new.ensures number (ap (λ (v : Tally). v.pushed) i.fresh) (ap (λ (v : Tally). v.popped) i.fresh) (ap (λ (v : Tally). v.stolen) c.in_ok-next.ensures.tallies.1)
          c.in_ok-next.ensures.deque.0 c.in_ok-push.ensures.items;
    }

abbrev Ends : In_ok-push-2 → Type 0
Ends c = AreChained c.args.workers c.push-2.new.self.items (stealer_deque c.in_ok-first.last_thief) (stealer_deque c.in_ok-first.last_thief) × (length c.push-2.new.self.items ≡ c.args.workers)

ends : (c : In_ok-push-2) → Ends c
ends c =
    let i = c.loop-number.invariant in
    let hs : List Hand = c.loop-number.hands.items in
    let last : Deque = stealer_deque c.in_ok-first.last_thief in
    let done : c.loop-number.number ≡ c.args.workers = (let a = c.loop-number.auto.number-end in let b = c.requires in omega (arith, c.loop-number-test.false, c.loop-number.auto.number)) in
    let number : c.args.workers - 1 ≡ length hs = (let n = i.count in omega arith) in (
      chained_more c.args.workers hs c.push-2.new.self.items c.new-2.result (worker_deque c.loop-number.owner) last last last (c.args.workers - 1)
          (worker_view c.loop-number.owner).pushed (worker_view c.loop-number.owner).popped (view c.in_ok-first.last_right).stolen i.chained c.new-2.ensures number (ap (λ (v : Tally). v.pushed) i.fresh) (ap (λ (v : Tally). v.popped) i.fresh) (ap (λ (v : Tally). v.stolen) c.in_ok-first.ensures.tallies.1)
          refl c.in_ok-push-2.ensures.items,
      (let n = i.count in omega (arith, ap length c.in_ok-push-2.ensures.items, length-append hs (c.new-2.result ∷ []))),
    )

pub returns-clause-linked : goal.returns-clause-linked
returns-clause-linked c = let e = ends c in chained_linked c.args.workers c.push-2.new.self.items (stealer_deque c.in_ok-first.last_thief) e.0 e.1

pub returns-clause-all : goal.returns-clause-all
returns-clause-all c = let e = ends c in chained_all c.args.workers c.push-2.new.self.items (stealer_deque c.in_ok-first.last_thief) (stealer_deque c.in_ok-first.last_thief) e.0 e.1 c.requires

pub returns-clause-fresh : goal.returns-clause-fresh
returns-clause-fresh c k h at = let this = (((ends c).0).each k h at) in this.2
