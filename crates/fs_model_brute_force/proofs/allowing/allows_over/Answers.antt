use Rattle.std.proofs.Common.{[], IfOk, sym, subst}
use Rattle.fs_model_brute_force.specs.Allowing.{AllowsOver, HaveRuns, ShowsAmong}
use Rattle.fs_model_brute_force.specs.Decisions.{Decides}
use Rattle.fs_model_brute_force.proofs.Choosing.{answered, on_ok, WholeHowever}
use Rattle.fs_model_brute_force.proofs.Listed.{allowed, allows, whole}
use Rattle.fs_model_brute_force.proofs.allowing.allows_over.Goals as goal

pub shows_among-requires-clause-whole : goal.shows_among-requires-clause-whole
shows_among-requires-clause-whole c =
    let lists = c.in_ok-lists.lists.items in
    subst (λ ls. WholeHowever c.args.test.now ls c.new-traces.result.items) (sym c.deref.ensures.value)
    (subst (λ ts. WholeHowever c.args.test.now lists ts) (sym c.new-traces.ensures.items)
    (whole c.args.test.now c.args.sets.now lists c.requires.test c.in_ok-lists.ensures.harts c.in_ok-lists.ensures.ok))

pub returns-clause-ok : goal.returns-clause-ok
returns-clause-ok c =
    let test = c.args.test.now in
    let placement = c.args.placement.now in
    let sets = c.args.sets.now in
    let lists = c.in_ok-lists.lists.items in
    let harts = c.in_ok-lists.ensures.harts in
    let listed = c.in_ok-lists.ensures.ok in
    answered (ShowsAmong test placement lists []) (AllowsOver test placement sets) c.shows_among.result
    (allows test sets lists c.requires.test harts listed placement)
    (allowed test sets lists c.requires.test harts listed placement)
    (subst (λ ls. IfOk c.shows_among.result (λ shows. Decides shows (ShowsAmong test placement ls []))) c.deref.ensures.value
    (subst (λ ts. IfOk c.shows_among.result (λ shows. Decides shows (ShowsAmong test placement c.deref.result.now ts)))
    c.new-traces.ensures.items
    c.shows_among.ensures.ok))

pub returns-clause-runs : goal.returns-clause-runs
returns-clause-runs c =
    on_ok (HaveRuns c.args.test.now c.args.sets.now) c.shows_among.result
    (c.in_ok-lists.lists.items, c.in_ok-lists.ensures.harts, c.in_ok-lists.ensures.ok)
