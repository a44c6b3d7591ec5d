use Rattle.std.proofs.Common.{◌≡◌, ◌≤◌, ◌++◌, ◌∷◌, [], length, sym, ap, subst, ◌∙◌, arith}
use Rattle.std.proofs.lemmas.List.{nil_from_length}
use Rattle.fs_model_brute_force.specs.Allowing.{AreWhole, ShowsAmong, ShowsFrom}
use Rattle.fs_model_brute_force.proofs.Extending.{extended, popped, when_no}
use Rattle.fs_model_brute_force.proofs.Choosing.{answered, last_shows, last_showed, none_more, none_shows, whole_last, WholeHowever}
use Rattle.fs_model_brute_force.proofs.Growing.{nearer}
use Rattle.fs_model_brute_force.proofs.allowing.+shows_among.Goals as goal

pub shows_in_some_order-requires-clause-whole : goal.shows_in_some_order-requires-clause-whole
shows_in_some_order-requires-clause-whole t c =
    let traces = c.args.traces.now.items in
    subst (AreWhole c.args.test.now) (sym c.deref.ensures.value)
    (whole_last c.args.test.now traces
    (subst (λ ls. WholeHowever c.args.test.now ls traces) (nil_from_length c.args.lists.now c.in_default.ensures.cases)
    c.requires.whole))

pub returns-in_default-clause-ok : goal.returns-in_default-clause-ok
returns-in_default-clause-ok t c =
    let test = c.args.test.now in
    let placement = c.args.placement.now in
    let traces = c.args.traces.now.items in
    let none = nil_from_length c.args.lists.now c.in_default.ensures.cases in
    answered (ShowsFrom test placement c.deref.result.now []) (ShowsAmong test placement c.args.lists.now traces)
    c.shows_in_some_order.result
    (λ shows. subst (λ ls. ShowsAmong test placement ls traces) (sym none)
    (last_shows test placement traces (subst (λ ts. ShowsFrom test placement ts []) c.deref.ensures.value shows)))
    (λ among. subst (λ ts. ShowsFrom test placement ts []) (sym c.deref.ensures.value)
    (last_showed test placement traces (subst (λ ls. ShowsAmong test placement ls traces) none among)))
    c.shows_in_some_order.ensures.ok

pub loop-trace-preserved : goal.loop-trace-preserved
loop-trace-preserved t c =
    let test = c.args.test.now in
    let placement = c.args.placement.now in
    let traces = c.args.traces.now.items in
    let rest = c.in-Some.rest.now in
    let list = c.as_slice-trace-items.result.now in
    let x = c.trace-item.result in
    let longer = c.shows_among.new.traces in
    let longer_is : longer.items ≡ traces ++ x ∷ [] =
    extended traces c.loop-trace.traces.items c.push.new.self.items longer.items c.in_ok-copy.field-0 x
    c.in_ok-found.ensures.traces
    c.in_ok-push.ensures.items c.loop-trace.invariant.0 c.in_ok-copy.ensures in
    let back : c.pop.new.self.items ≡ traces =
    popped longer.len traces c.pop.new.self.items longer.items x (let ok = longer.ok.0 in omega arith) longer_is
    c.pop.ensures.rest in
    let pushed = c.push.new.self.items in
    let fails = when_no c.in_ok-found.found (ShowsAmong test placement rest pushed) c.if-found.false c.in_ok-found.ensures.ok in (
      back,
      none_more test placement list rest traces c.loop-trace.trace-index x (sym c.trace-item.is) c.loop-trace-test.true
          (subst (λ ts. ShowsAmong test placement rest ts → ⊥) (sym c.in_ok-found.ensures.traces ∙ longer_is) fails) c.loop-trace.invariant.1,
    )

pub returns-clause-ok : goal.returns-clause-ok
returns-clause-ok t c =
    let test = c.args.test.now in
    let placement = c.args.placement.now in
    let traces = c.args.traces.now.items in
    let rest = c.in-Some.rest.now in
    let list = c.as_slice-trace-items.result.now in
    let all : length list ≤ c.loop-trace.trace-index = omega (arith, c.loop-trace-test.false, c.loop-trace.auto.trace-index-end) in
    λ among. none_shows test placement list rest traces c.loop-trace.trace-index all
    c.loop-trace.invariant.1
    (subst (λ ls. ShowsAmong test placement ls traces)
    (c.in-Some.ensures.cases.0 ∙ ap (λ l. l ∷ rest) (sym c.as_slice-trace-items.ensures)) among)

pub loop-trace-smaller : goal.loop-trace-smaller
loop-trace-smaller t c = nearer (length c.as_slice-trace-items.result.now) c.loop-trace.trace-index c.loop-trace-test.true
