use Rattle.std.proofs.Common.{inl}
use Rattle.std.proofs.lemmas.Result.{IfErr-weaker}
use Rattle.fs_app_place_and_order.proofs.Faults.{IfErr-handed}
use Rattle.fs_app_test.proofs.TestFaults.{test-test, test-met}
use Rattle.fs_app_test.proofs.note.vacuous_note.Goals as goal

pub returns-in_err-test-clause-fault : goal.returns-in_err-test-clause-fault
returns-in_err-test-clause-fault c =
    IfErr-handed c.from_residual.result _ _ c.from_residual.ensures.1 (test-test _ _ c.in_err-test.ensures.err)

pub returns-clause-fault : goal.returns-clause-fault
returns-clause-fault c =
    IfErr-weaker c.note_of.result _ _
    (λ fault h. test-met _ _ fault c.in_ok-test.ensures.ok (λ other. inl (h other))) c.note_of.ensures.err
