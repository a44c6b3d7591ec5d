use Rattle.std.proofs.Common.{◌∙◌, ap, [], ◌∷◌, arith}
use Rattle.crossbeam_deque.specs.Handles.{worker_view}
use Rattle.fs_pool.specs.declared.deque.Tally.{Tally}
use Rattle.fs_pool.specs.Ring.{count_of}
use Rattle.fs_pool.proofs.Moves.{merges, count_append}
use Rattle.fs_pool.proofs.deque.drain.Goals as goal

pub absorb-requires-clause-rule : goal.absorb-requires-clause-rule
absorb-requires-clause-rule c = merges _ _ _ _ c.requires.owner.0 c.requires.thief.1

pub loop-number-preserved : goal.loop-number-preserved
loop-number-preserved c =
    let i = c.loop-number.invariant in
    let now = c.in-Some.ensures.some in
    record {
      owns = ap (λ (v : Tally). v.owns) now ∙ i.owns;
      steals = ap (λ (v : Tally). v.steals) now ∙ i.steals;
      fifo = c.in-Some.ensures.same.1 ∙ i.fifo;
      pushed = ap (λ (v : Tally). v.pushed) now ∙ i.pushed;
      stolen = ap (λ (v : Tally). v.stolen) now ∙ i.stolen;
      popped = λ x.
          let was = i.popped x in
          let a = ap (λ (v : Tally). count_of x v.popped) now ∙ count_append x (worker_view c.loop-number.owner).popped (c.in-Some.number ∷ []) in
          let b = ap (count_of x) c.in_ok-push.ensures.items ∙ count_append x c.loop-number.numbers.items (c.in-Some.number ∷ []) in
          omega arith;
    }
