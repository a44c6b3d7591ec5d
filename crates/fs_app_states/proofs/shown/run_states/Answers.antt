use Rattle.fs_app_place_and_order.proofs.Faults.{IfErr-handed}
use Rattle.fs_app_states.proofs.Answering.{first-test}
use Rattle.fs_app_states.proofs.shown.run_states.Goals as goal

pub returns-in_err-read-clause-fault : goal.returns-in_err-read-clause-fault
returns-in_err-read-clause-fault c =
    IfErr-handed c.from_residual.result _ _ c.from_residual.ensures.1 (first-test _ _ _ _ c.in_err-read.ensures.err)
