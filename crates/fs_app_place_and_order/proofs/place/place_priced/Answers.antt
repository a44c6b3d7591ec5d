use Rattle.fs_app_place_and_order.proofs.Faults.{IfErr-handed, first-test}
use Rattle.fs_app_place_and_order.proofs.place.place_priced.Goals as goal

pub returns-in_err-test-clause-fault : goal.returns-in_err-test-clause-fault
returns-in_err-test-clause-fault c =
    IfErr-handed c.from_residual.result _ _ c.from_residual.ensures.1
    (λ given priced. first-test _ _ _ _ _ priced c.in_err-test.ensures.err)
