use Rattle.fs_app_place_and_order.proofs.Faults.{IfErr-handed}
use Rattle.fs_app_place_and_order.proofs.OrderFaults.{order-test}
use Rattle.fs_app_place_and_order.proofs.order.run_order.Goals as goal

pub returns-in_err-test-clause-fault : goal.returns-in_err-test-clause-fault
returns-in_err-test-clause-fault c =
    IfErr-handed c.from_residual.result _ _ c.from_residual.ensures.1 (order-test _ _ _ _ c.in_err-test.ensures.err)
