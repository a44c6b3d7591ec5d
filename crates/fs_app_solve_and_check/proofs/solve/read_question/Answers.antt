use Rattle.fs_app_place_and_order.proofs.Faults.{IfErr-handed, IsPricesFault-read}
use Rattle.fs_app_solve_and_check.proofs.SolveFaults.{if_ok, solve-prices}
use Rattle.fs_app_solve_and_check.proofs.solve.read_question.Goals as goal

pub returns-in_err-table-clause-fault : goal.returns-in_err-table-clause-fault
returns-in_err-table-clause-fault c =
    let said = c.in_err-table.ensures in
    IfErr-handed c.from_residual.result _ _ c.from_residual.ensures.1
    (λ limit. solve-prices _ _ _ _ (IsPricesFault-read _ _ said.err said.bad said.no_top))

pub returns-clause-asked : goal.returns-clause-asked
returns-clause-asked c = if_ok _ _ c.read_priced.result c.read_priced.ensures.asked
    (λ question says. says c.args.prices.now c.in_ok-table.ensures.ok)
