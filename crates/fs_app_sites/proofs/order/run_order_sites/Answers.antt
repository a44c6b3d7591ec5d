use Rattle.fs_app_place_and_order.proofs.Faults.{IfErr-handed}
use Rattle.fs_app_sites.proofs.PlaceFaults.{order-file}
use Rattle.fs_app_sites.proofs.order.run_order_sites.Goals as goal

pub returns-in_err-test-clause-fault : goal.returns-in_err-test-clause-fault
returns-in_err-test-clause-fault c =
    IfErr-handed c.from_residual.result _ _ c.from_residual.ensures.1 (order-file _ _ _ _ _ c.in_err-test.ensures.err)
