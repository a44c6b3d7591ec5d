use Rattle.std.proofs.Common.{inr}
use Rattle.std.proofs.lemmas.Result.{IfErr-weaker}
use Rattle.fs_cand_listing.proofs.Faults.{handed}
use Rattle.fs_check_certificate.proofs.Faults.{no_certificate, judged}
use Rattle.fs_check_certificate.proofs.certificate_verdict.check.Goals as goal

pub returns-in_err-certificate-clause-err : goal.returns-in_err-certificate-clause-err
returns-in_err-certificate-clause-err c =
    handed c.from_residual.result _ _ c.from_residual.ensures.1
    (no_certificate c.args.test.value c.args.certificate.now c.in_err-certificate.field-0.0 c.in_err-certificate.ensures.err c.in_err-certificate.ensures.bad)

pub returns-clause-ok : goal.returns-clause-ok
returns-clause-ok c =
    let read = c.in_ok-certificate.ensures.ok in
    judged c.args.test.value c.args.prices.now c.args.certificate.now read.0 c.check_certificate.result read.1
    (c.check_certificate.ensures.clean read.0 read.2) (c.check_certificate.ensures.ok read.0 read.2)

pub returns-clause-err : goal.returns-clause-err
returns-clause-err c =
    let read = c.in_ok-certificate.ensures.ok in
    IfErr-weaker c.check_certificate.result _ _ (λ fault due other. inr (read.0, read.1, due other))
    (c.check_certificate.ensures.err read.0 read.2)
