use Rattle.std.proofs.lemmas.Result.{IfOk-weaker, IfErr-weaker}
use Rattle.fs_app_place_and_order.proofs.Faults.{IfErr-handed}
use Rattle.fs_app_test.proofs.TestFaults.{test-test, test-met}
use Rattle.fs_app_test.proofs.tested.judge_bytes.Goals as goal

pub returns-in_err-test-clause-fault : goal.returns-in_err-test-clause-fault
returns-in_err-test-clause-fault c =
    IfErr-handed c.from_residual.result _ _ c.from_residual.ensures.1 (test-test _ _ c.in_err-test.ensures.err)

pub returns-clause-ok : goal.returns-clause-ok
returns-clause-ok c =
    IfOk-weaker c.judge.result _ _
    (λ said h. record { the_test = _; reads = c.in_ok-test.ensures.ok; listed = h.listed; says = h.says })
    c.judge.ensures.ok

pub returns-clause-fault : goal.returns-clause-fault
returns-clause-fault c =
    IfErr-weaker c.judge.result _ _ (λ fault h. test-met _ _ fault c.in_ok-test.ensures.ok h) c.judge.ensures.err
