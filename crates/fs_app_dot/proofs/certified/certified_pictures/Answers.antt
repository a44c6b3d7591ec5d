use Rattle.std.proofs.Common.{Err, ap}
use Rattle.std.proofs.lemmas.Result.{IfErr-weaker, IfOk-weaker}
use Rattle.fs_app_place_and_order.proofs.Faults.{IfErr-handed}
use Rattle.fs_app_why.proofs.Faults.{why_answered, why_certificate}
use Rattle.fs_app_dot.proofs.certified.certified_pictures.Goals as goal

pub returns-clause-told : goal.returns-clause-told
returns-clause-told c =
    let is = c.in_ok-certificate.ensures.ok in
    IfOk-weaker c.answer_pictures.result _ _ (λ pictures told. record { said = is.0; file = is.1; told = told })
    (c.answer_pictures.ensures.told is.0 is.2)

pub returns-clause-fault : goal.returns-clause-fault
returns-clause-fault c =
    let is = c.in_ok-certificate.ensures.ok in
    IfErr-weaker c.answer_pictures.result _ _ (λ fault. why_answered c.args.test.now c.args.certificate.now is.0 fault is.1)
    (c.answer_pictures.ensures.fault is.0 is.2)

pub returns-in_err-certificate-clause-fault : goal.returns-in_err-certificate-clause-fault
returns-in_err-certificate-clause-fault c =
    IfErr-handed c.from_residual.result _ _ c.from_residual.ensures.1
    (why_certificate _ _ _ (λ e. c.in_err-certificate.ensures.bad (ap (λ f. Err f) e)) c.in_err-certificate.ensures.err)
