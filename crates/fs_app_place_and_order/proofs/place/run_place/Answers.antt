use Rattle.fs_app_place_and_order.proofs.Faults.{IfErr-handed, first-prices}
use Rattle.fs_app_place_and_order.proofs.place.run_place.Goals as goal

pub returns-in_err-prices-clause-fault : goal.returns-in_err-prices-clause-fault
returns-in_err-prices-clause-fault c =
    IfErr-handed c.from_residual.result _ _ c.from_residual.ensures.1 (first-prices _ _ _ _ c.in_err-prices.ensures.err)
