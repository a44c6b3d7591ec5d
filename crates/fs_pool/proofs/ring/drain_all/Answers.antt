use Rattle.std.proofs.Common.{◌≡◌, ◌∙◌, List, [], ◌∷◌, ◌++◌, length, ap, sym, subst, arith}
use Rattle.crossbeam_deque.specs.Handles.{IsPassOf}
use Rattle.fs_pool.specs.Ring.{Hand, Deque, count_of}
use Rattle.fs_pool.proofs.Rings.{front_at, last_at, total_last, taken_linked, ends_linked}
use Rattle.fs_pool.proofs.ring.drain_all.Goals as goal

pub loop-hand-init : goal.loop-hand-init
loop-hand-init c =
    let h : Hand = c.in-Some.last in
    let all : List Hand = c.args.hands.items in
    let rest : List Hand = c.pop.new.self.items in
    let is : all ≡ rest ++ h ∷ [] = c.in-Some.ensures.items in
    let p = c.into_parts-owner.ensures in
    record {
      owns = p.owner.0;
      fifo = p.owner.1;
      rest = front_at all rest h is;
      here = (h, last_at all rest h is, p.owner.2);
      left = λ x.
          let a = total_last x (λ h. h.pushed) all rest h is in
          let b = total_last x (λ h. h.popped) all rest h is in
          let d = total_last x (λ h. h.stolen) all rest h is in
          let e = ap (count_of x) p.pushed in
          let f = ap (count_of x) p.popped in
          let g = ap (count_of x) p.stolen in
          let n = ap (count_of x) c.new-numbers.ensures.items in
          omega arith;
    }

pub drain-requires-clause-thief : goal.drain-requires-clause-thief
drain-requires-clause-thief c =
    let i = c.loop-hand.invariant in
    let h : Hand = c.in-Some-pop.hand in
    let p = c.into_parts-previous.ensures.right in
    let link = taken_linked c.args.hands.items c.loop-hand.hands.items c.pop-in-loop-hand.new.self.items h i.here.0 c.requires.linked c.requires.all i.rest c.in-Some-pop.ensures.items i.here.1 in
    (subst (λ (d : Deque). IsPassOf d c.into_parts-previous.result.1) (link ∙ sym i.here.2) p.1, p.0)

pub loop-hand-preserved : goal.loop-hand-preserved
loop-hand-preserved c =
    let i = c.loop-hand.invariant in
    let h : Hand = c.in-Some-pop.hand in
    let rest : List Hand = c.loop-hand.hands.items in
    let left : List Hand = c.pop-in-loop-hand.new.self.items in
    let is : rest ≡ left ++ h ∷ [] = c.in-Some-pop.ensures.items in
    let p = c.into_parts-previous.ensures in
    record {
      owns = p.owner.0;
      fifo = p.owner.1;
      rest = λ k g at. i.rest k g (front_at rest left h is k g at);
      here = (h, i.rest (length left) h (last_at rest left h is), p.owner.2);
      left = λ x.
          let was = i.left x in
          let one = c.in_ok-drain.ensures x in
          let a = total_last x (λ h. h.pushed) rest left h is in
          let b = total_last x (λ h. h.popped) rest left h is in
          let d = total_last x (λ h. h.stolen) rest left h is in
          let e = ap (count_of x) p.pushed in
          let f = ap (count_of x) p.popped in
          let g = ap (count_of x) p.stolen in
          omega arith;
    }

pub drain-requires-2-clause-thief : goal.drain-requires-2-clause-thief
drain-requires-2-clause-thief c =
    let i = c.loop-hand.invariant in
    let none : length c.loop-hand.hands.items ≡ 0 = omega (arith, c.in_default-pop.ensures.cases.0, c.loop-hand.hands.ok) in
    let p = c.into_parts-owner.ensures.right in
    let link = ends_linked c.args.hands.items c.pop.new.self.items (length c.loop-hand.hands.items) c.in-Some.last i.here.0 c.requires.linked c.requires.all c.in-Some.ensures.items i.here.1 none in
    (subst (λ (d : Deque). IsPassOf d c.into_parts-owner.result.1) (link ∙ sym i.here.2) p.1, p.0)
