use Rattle.std.proofs.Common.{Err, ap}
use Rattle.fs_app_place_and_order.proofs.Faults.{IfErr-handed}
use Rattle.fs_app_place_and_order.proofs.OrderFaults.{order-fences}
use Rattle.fs_app_place_and_order.proofs.order.judge.Goals as goal

pub returns-in_err-placement-clause-fault : goal.returns-in_err-placement-clause-fault
returns-in_err-placement-clause-fault c =
    IfErr-handed c.from_residual.result _ _ c.from_residual.ensures.1
    (λ bytes reads. order-fences _ _ _ _ _ reads (λ e. c.in_err-placement.ensures.bad_fence (ap (λ f. Err f) e)) c.in_err-placement.ensures.err)
