use Rattle.std.specs.Arc.{arc_value}
use Rattle.std.proofs.lemmas.Result.{IfErr-weaker}
use Rattle.fs_judge_outcomes.proofs.Asking.{asks_as_well, found_in, none_in, same_fault, ok_some, ok_none}
use Rattle.fs_judge_outcomes.proofs.sought.sought.Goals as goal

pub returns-clause-some : goal.returns-clause-some
returns-clause-some c =
    let t = c.args.problem.now in
    let places = c.args.places.now in
    let part = c.args.part.now in
    let asked = c.in_ok-asking_problem.asking_problem in
    let asks_for = asks_as_well c.test.result.now t places part (arc_value c.in_ok-asked.asked) asked c.test.ensures.value
    c.in_ok-asking_problem.ensures.value c.in_ok-asked.ensures.ok in
    ok_some c.shown_state.result _ _ (λ found. found_in t places part asked asks_for c.args.placement.now found.state)
    c.shown_state.ensures.some

pub returns-clause-none : goal.returns-clause-none
returns-clause-none c =
    let t = c.args.problem.now in
    let places = c.args.places.now in
    let part = c.args.part.now in
    let asked = c.in_ok-asking_problem.asking_problem in
    let asks_for = asks_as_well c.test.result.now t places part (arc_value c.in_ok-asked.asked) asked c.test.ensures.value
    c.in_ok-asking_problem.ensures.value c.in_ok-asked.ensures.ok in
    ok_none c.shown_state.result _ _ (none_in t places part asked asks_for c.args.placement.now) c.shown_state.ensures.none

pub returns-clause-err : goal.returns-clause-err
returns-clause-err c =
    let t = c.args.problem.now in
    let places = c.args.places.now in
    let part = c.args.part.now in
    let asked = c.in_ok-asking_problem.asking_problem in
    let asks_for = asks_as_well c.test.result.now t places part (arc_value c.in_ok-asked.asked) asked c.test.ensures.value
    c.in_ok-asking_problem.ensures.value c.in_ok-asked.ensures.ok in
    IfErr-weaker c.shown_state.result _ _ (λ fault h other. same_fault t places part asked asks_for fault (h other))
    c.shown_state.ensures.err
