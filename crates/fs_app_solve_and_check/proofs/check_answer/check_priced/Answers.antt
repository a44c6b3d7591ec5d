use Rattle.std.proofs.lemmas.Result.{IfErr-weaker}
use Rattle.fs_app_place_and_order.proofs.Faults.{IfErr-handed}
use Rattle.fs_app_solve_and_check.proofs.CheckFaults.{check-certificate, check-test}
use Rattle.fs_app_solve_and_check.proofs.check_answer.check_priced.Goals as goal

pub returns-in_err-read-clause-fault : goal.returns-in_err-read-clause-fault
returns-in_err-read-clause-fault c =
    IfErr-handed c.from_residual.result _ _ c.from_residual.ensures.1
    (λ bytes priced. check-test _ _ _ _ _ priced c.in_err-read.ensures.err)

pub returns-clause-fault : goal.returns-clause-fault
returns-clause-fault c =
    IfErr-weaker c.check_test.result _ _
    (λ fault h bytes priced. check-certificate c.args.test.now bytes c.args.certificate.now fault c.args.prices.now c.in_ok-read.read priced c.in_ok-read.ensures.ok h)
    c.check_test.ensures.fault
