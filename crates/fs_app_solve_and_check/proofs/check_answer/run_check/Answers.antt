use Rattle.fs_app_place_and_order.proofs.Faults.{IfErr-handed, IsPricesFault-read}
use Rattle.fs_app_solve_and_check.proofs.CheckFaults.{check-prices}
use Rattle.fs_app_solve_and_check.proofs.check_answer.run_check.Goals as goal

pub returns-in_err-table-clause-fault : goal.returns-in_err-table-clause-fault
returns-in_err-table-clause-fault c =
    let said = c.in_err-table.ensures in
    IfErr-handed c.from_residual.result _ _ c.from_residual.ensures.1
    (check-prices _ _ _ _ (IsPricesFault-read _ _ said.err said.bad said.no_top))
