use Rattle.std.proofs.Common.{◌≡◌, subst}
use Rattle.serde_json.specs.View.{view}
use Rattle.fs_app_sites_check_and_audit.specs.SitesFile.{IsSitesValue}
use Rattle.fs_app_sites_check_and_audit.proofs.read.read_certificate.Goals as goal

pub returns-clause-bad : goal.returns-clause-bad
returns-clause-bad c =
    λ is said h.
    let reads = h.reads in
    let here = c.in_ok-value.ensures.ok.1 in
    let same : h.value ≡ view c.in_ok-value.value = cc in
    c.certificate_in.ensures.bad is said (subst (λ d. IsSitesValue d said) same h.says)
