use Rattle.fs_app_solve_and_check.proofs.CheckFaults.{if_ok}
use Rattle.fs_app_solve_and_check.proofs.Given.{each_file, one_none, prints_none}
use Rattle.fs_app_solve_and_check.proofs.check_answer.none_output.Goals as goal

pub returns-clause-answer : goal.returns-clause-answer
returns-clause-answer c = if_ok _ _ c.none_answer.result (each_file c.args.certificate.now c.none_answer.result c.none_answer.ensures.ok)
    (λ made shown t prices said bounded verdict. prints_none t prices _ said _ _ _ bounded verdict shown)

pub returns-clause-object : goal.returns-clause-object
returns-clause-object c = if_ok _ _ c.none_answer.result (each_file c.args.certificate.now c.none_answer.result c.none_answer.ensures.ok)
    (λ made shown t prices said bounded verdict. one_none t prices _ said _ _ _ bounded verdict shown)
