use Rattle.std.proofs.Common.{inr}
use Rattle.fs_app_solve_and_check.proofs.Given.{prints_refusal}
use Rattle.fs_app_solve_and_check.proofs.check_answer.refusal.Goals as goal

pub returns-clause-answer : goal.returns-clause-answer
returns-clause-answer c = λ t prices said bounded verdict. prints_refusal t prices said _ _ verdict c.in_ok-refusal_text.ensures

pub returns-clause-object : goal.returns-clause-object
returns-clause-object c = λ t prices said bounded verdict. inr (c.args.reason, c.in_ok-refusal_text.ensures, c.in_ok-no_object.ensures)
