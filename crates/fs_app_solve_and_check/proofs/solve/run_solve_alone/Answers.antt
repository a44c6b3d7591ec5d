use Rattle.fs_app_place_and_order.proofs.Faults.{IfErr-handed}
use Rattle.fs_app_solve_and_check.specs.Solve.{of_memory}
use Rattle.fs_app_solve_and_check.proofs.Founding.{found-asked, slots-asked, top-asked}
use Rattle.fs_app_solve_and_check.proofs.SolveFaults.{solve-search}
use Rattle.fs_app_solve_and_check.proofs.solve.run_solve_alone.Goals as goal

pub solve-requires-clause-slots : goal.solve-requires-clause-slots
solve-requires-clause-slots g c = slots-asked _ _ _ _ c.in_ok-question.ensures.asked c.in_ok-asked.ensures

pub solve-requires-clause-top : goal.solve-requires-clause-top
solve-requires-clause-top g c = top-asked _ _ _ _ c.in_ok-question.ensures.asked c.in_ok-asked.ensures

pub returns-in_err-question-clause-fault : goal.returns-in_err-question-clause-fault
returns-in_err-question-clause-fault g c =
    IfErr-handed c.from_residual.result _ _ c.from_residual.ensures.1 (c.in_err-question.ensures.fault _)

pub returns-in_err-asked-clause-fault : goal.returns-in_err-asked-clause-fault
returns-in_err-asked-clause-fault g c =
    IfErr-handed c.from_residual-in_err-asked.result _ _ c.from_residual-in_err-asked.ensures.1 of_memory

pub returns-in_err-solved-clause-fault : goal.returns-in_err-solved-clause-fault
returns-in_err-solved-clause-fault g c =
    IfErr-handed c.from_residual-in_err-solved.result _ _ c.from_residual-in_err-solved.ensures.1
    (solve-search _ _ c.args.limits.nodes _ _ _ c.in_ok-question.ensures.asked c.in_ok-asked.ensures c.in_err-solved.ensures.err)

pub returns-clause-found : goal.returns-clause-found
returns-clause-found g c =
    found-asked _ _ _ _ c.args.limits.nodes _ c.in_ok-question.ensures.asked c.in_ok-asked.ensures c.in_ok-solved.ensures.clean
    c.in_ok-solved.ensures.ok c.in_ok-solved.ensures.rests
