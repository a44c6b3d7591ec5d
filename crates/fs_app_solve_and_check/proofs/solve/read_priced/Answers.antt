use Rattle.fs_app_place_and_order.proofs.Faults.{IfErr-handed}
use Rattle.fs_app_solve_and_check.proofs.Founding.{asked-by}
use Rattle.fs_app_solve_and_check.proofs.SolveFaults.{solve-memory, solve-test}
use Rattle.fs_app_solve_and_check.proofs.solve.read_priced.Goals as goal

pub returns-in_err-read-clause-fault : goal.returns-in_err-read-clause-fault
returns-in_err-read-clause-fault c =
    IfErr-handed c.from_residual.result _ _ c.from_residual.ensures.1
    (λ bytes priced limit. solve-test _ _ _ _ _ priced c.in_err-read.ensures.err)

pub returns-in_err-question-clause-fault : goal.returns-in_err-question-clause-fault
returns-in_err-question-clause-fault c =
    IfErr-handed c.from_residual-in_err-question.result _ _ c.from_residual-in_err-question.ensures.1
    (λ bytes priced limit. solve-memory _ _ _ _ c.in_err-question.ensures.err)

pub returns-clause-asked : goal.returns-clause-asked
returns-clause-asked c = λ bytes priced.
    asked-by _ _ _ _ _ c.in_ok-question.ensures.ok c.in_ok-read.ensures.ok priced c.in_ok-read.ensures.test c.question_of.ensures.table
