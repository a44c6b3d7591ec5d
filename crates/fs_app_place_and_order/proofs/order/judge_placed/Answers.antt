use Rattle.std.proofs.Common.{Err, ap}
use Rattle.fs_app_place_and_order.proofs.Faults.{IfErr-handed}
use Rattle.fs_app_place_and_order.proofs.OrderFaults.{order-memory, order-witness}
use Rattle.fs_app_place_and_order.proofs.order.judge_placed.Goals as goal

pub returns-in_err-verdict-clause-fault : goal.returns-in_err-verdict-clause-fault
returns-in_err-verdict-clause-fault c =
    IfErr-handed c.from_residual.result _ _ c.from_residual.ensures.1
    (λ bytes words reads placed. order-witness _ _ _ _ _ _ reads placed (λ e. c.in_err-verdict.ensures.bad (ap (λ f. Err f) e)) c.in_err-verdict.ensures.err)

pub returns-in_err-verdict_text-clause-fault : goal.returns-in_err-verdict_text-clause-fault
returns-in_err-verdict_text-clause-fault c =
    IfErr-handed c.from_residual-in_err-verdict_text.result _ _ c.from_residual-in_err-verdict_text.ensures.1
    (λ bytes words reads placed. order-memory _ _ _ _ c.in_err-verdict_text.ensures.err)
