use Rattle.std.proofs.Common.{inl, subst}
use Rattle.fs_board_offers.specs.Sizes.{HasNoRunFault}
use Rattle.fs_board_search.proofs.Ends.{handed}
use Rattle.fs_board_search.proofs.solving.solve.Goals as goal

pub returns-in_err-problem-clause-err : goal.returns-in_err-problem-clause-err
returns-in_err-problem-clause-err g c =
    handed c.from_residual.result _ _ c.from_residual.ensures.1 (λ other. inl (c.in_err-problem.ensures.err other))

pub solve_problem-requires-clause-clean : goal.solve_problem-requires-clause-clean
solve_problem-requires-clause-clean g c = subst HasNoRunFault c.in_ok-problem.ensures.same c.in_ok-problem.ensures.clean

pub returns-in_err-solved-clause-err : goal.returns-in_err-solved-clause-err
returns-in_err-solved-clause-err g c =
    handed c.from_residual-in_err-solved.result _ _ c.from_residual-in_err-solved.ensures.1 c.in_err-solved.ensures.err
