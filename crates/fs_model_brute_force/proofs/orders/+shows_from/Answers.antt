use Rattle.std.proofs.Common.{◌≡◌, ◌++◌, ◌∷◌, [], true, refl, sym, ap, subst, ◌∙◌, arith}
use Rattle.fs_model.specs.Numbers.{has_number}
use Rattle.fs_model_brute_force.specs.Allowing.{ShowsFrom}
use Rattle.fs_model_brute_force.proofs.Extending.{none_more, none_shows, next_new, extended, popped, when_no}
use Rattle.fs_model.proofs.ListedNumbers.{has_number_any}
use Rattle.fs_model_brute_force.proofs.Growing.{number_fits, nearer}
use Rattle.fs_model_brute_force.proofs.orders.+shows_from.Goals as goal
use Rattle.fs_model_brute_force.proofs.orders.+shows_from.Goals.{then-not-has_number+in_ok-push+in_ok-found+else-found, else-not-has_number}

pub loop-a-preserved : goal.loop-a-preserved
loop-a-preserved t c =
    let test = c.args.test.now in
    let placement = c.args.placement.now in
    let traces = c.args.traces.now in
    let order = c.args.order.now.items in
    let a = c.loop-a.a in
    elim c.if-not-has_number.branch [
      | then-not-has_number+in_ok-push+in_ok-found+else-found w ↦ (
          let longer = w.shows_from.new.order in
          let found = w.in_ok-found.found in
          let pushed = w.push.new.self.items in
          let longer_is : longer.items ≡ order ++ a ∷ [] =
          extended order c.loop-a.order.items w.push.new.self.items longer.items a a w.in_ok-found.ensures.order
          w.in_ok-push.ensures.items c.loop-a.invariant.0 refl in
          let back : w.pop.new.self.items ≡ order =
          popped longer.len order w.pop.new.self.items longer.items a (let ok = longer.ok.0 in omega arith) longer_is w.pop.ensures.rest in
          let fails = when_no found (ShowsFrom test placement traces pushed) w.if-found.false w.in_ok-found.ensures.ok in (
            ap (λ o. o.items) w.order-is ∙ back,
            none_more test placement traces order a c.loop-a.invariant.1
                (subst (λ xs. ShowsFrom test placement traces xs → ⊥) (sym w.in_ok-found.ensures.order ∙ longer_is) fails),
          ))
      | else-not-has_number w ↦ (
          let has : has_number order a ≡ true =
          sym (ap (λ xs. has_number xs a) (c.deref-in-loop-a.ensures.value ∙ c.loop-a.invariant.0))
          ∙ sym (has_number_any c.deref-in-loop-a.result.now a) ∙ sym c.has_number.ensures ∙ w.if-not-has_number.false
          in (
            ap (λ o. o.items) w.order-is ∙ c.loop-a.invariant.0,
            none_more test placement traces order a c.loop-a.invariant.1
                (λ shows. next_new test placement traces order a shows has),
          ))
    ]

pub returns-clause-ok : goal.returns-clause-ok
returns-clause-ok t c =
    none_shows c.args.test.now c.args.placement.now c.args.traces.now c.args.order.now.items c.args.count c.requires.count
    (λ same. c.if-len-count.false (omega (arith, c.len.ensures, c.args.order.now.ok.0, same)))
    (λ b low. c.loop-a.invariant.1 b (omega (arith, low, c.loop-a-test.false, c.loop-a.auto.a-end)))

pub overflow_cast-a : goal.overflow_cast-a
overflow_cast-a t c = number_fits c.loop-a.a c.args.count (omega (arith, c.loop-a-test.true)) c.requires.few

pub overflow_cast-a-then-not-has_number : goal.overflow_cast-a-then-not-has_number
overflow_cast-a-then-not-has_number t c = number_fits c.loop-a.a c.args.count (omega (arith, c.loop-a-test.true)) c.requires.few

pub loop-a-smaller : goal.loop-a-smaller
loop-a-smaller t c = nearer _ c.loop-a.a c.loop-a-test.true
