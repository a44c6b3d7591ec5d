use Rattle.std.specs.Arc.{arc_value}
use Rattle.std.proofs.lemmas.Result.{IfOk-weaker}
use Rattle.fs_judge_outcomes.proofs.Asking.{asks_as_well, none_in}
use Rattle.fs_judge_outcomes.proofs.sought.has_none.Goals as goal

pub returns-clause-ok : goal.returns-clause-ok
returns-clause-ok c =
    let t = c.args.problem.now in
    let places = c.args.places.now in
    let part = c.args.part.now in
    let asked = c.in_ok-asking_problem.asking_problem in
    let asks_for = asks_as_well c.test.result.now t places part (arc_value c.in_ok-asked.asked) asked c.test.ensures.value
    c.in_ok-asking_problem.ensures.value c.in_ok-asked.ensures.ok in
    IfOk-weaker c.is_refuted_within.result _ _ (λ none h is. none_in t places part asked asks_for c.args.placement.now (h is))
    c.is_refuted_within.ensures.ok
