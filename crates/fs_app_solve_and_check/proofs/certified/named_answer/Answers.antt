use Rattle.std.proofs.Common.{◌∙◌}
use Rattle.fs_app_solve_and_check.proofs.Given.{none_yes}
use Rattle.fs_app_solve_and_check.proofs.certified.named_answer.Goals as goal

pub returns-clause-ok : goal.returns-clause-ok
returns-clause-ok c =
    none_yes _ _ _ _ _ _ (c.as_str.ensures.value ∙ c.in_ok-lines.ensures.text) c.in_ok-said_yes.ensures.text
    c.in_ok-said_yes.ensures.status c.in_ok-said_yes.ensures.object c.in_ok-object.ensures
