use Rattle.fs_app_solve_and_check.proofs.Founding.{is-solved}
use Rattle.fs_app_solve_and_check.proofs.solve.Found.output.Goals as goal

pub returns-clause-answer : goal.returns-clause-answer
returns-clause-answer c = λ test prices limit is. is-solved test prices limit _ _ _ _ is c.in_ok-output.ensures.prints
