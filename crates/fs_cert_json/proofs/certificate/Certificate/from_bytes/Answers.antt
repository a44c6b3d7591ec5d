use Rattle.std.proofs.Common.{◌≡◌, subst}
use Rattle.serde_json.specs.View.{view}
use Rattle.fs_cert_evidence.specs.CertificateFile.{IsCertificateValue}
use Rattle.fs_cert_json.proofs.certificate.Certificate.from_bytes.Goals as goal

pub returns-clause-bad : goal.returns-clause-bad
returns-clause-bad c =
    λ is certificate h.
    let reads = h.reads in
    let here = c.in_ok-value.ensures.ok.1 in
    let same : h.value ≡ view c.in_ok-value.value = cc in
    c.read_certificate.ensures.bad is certificate (subst (λ d. IsCertificateValue d certificate) same h.says)
