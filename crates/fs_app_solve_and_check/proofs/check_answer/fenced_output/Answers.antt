use Rattle.fs_app_solve_and_check.proofs.CheckFaults.{if_ok}
use Rattle.fs_app_solve_and_check.proofs.Given.{one_yes, prints_fences}
use Rattle.fs_app_solve_and_check.proofs.check_answer.fenced_output.Goals as goal

pub returns-clause-answer : goal.returns-clause-answer
returns-clause-answer c = if_ok _ _ c.fenced_answer.result c.fenced_answer.ensures.ok
    (λ made shown t prices said bounded verdict. prints_fences t prices _ said _ _ _ _ verdict shown)

pub returns-clause-object : goal.returns-clause-object
returns-clause-object c = if_ok _ _ c.fenced_answer.result c.fenced_answer.ensures.ok
    (λ made shown t prices said bounded verdict. one_yes _ _ _ _ shown)
