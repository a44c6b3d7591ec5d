use Rattle.std.proofs.Common.{◌∙◌}
use Rattle.fs_app_solve_and_check.proofs.Given.{fenced_yes}
use Rattle.fs_app_solve_and_check.proofs.certified.fenced_answer.Goals as goal

pub returns-clause-ok : goal.returns-clause-ok
returns-clause-ok c =
    fenced_yes _ _ c.args.placement.now _ _ _ _ _ c.cost_of-cost.ensures (c.as_str.ensures.value ∙ c.in_ok-lines.ensures)
    c.in_ok-said_yes.ensures.text c.in_ok-said_yes.ensures.status c.in_ok-said_yes.ensures.object c.in_ok-object.ensures
