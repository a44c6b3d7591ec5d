use Rattle.std.proofs.Common.{string_bytes, subst}
use Rattle.fs_app_sites_check_and_audit.specs.Audited.{IsAudited}
use Rattle.fs_app.specs.Answers.{audited}
use Rattle.fs_app.proofs.audit_sites.answer_audit_sites.Goals as goal

pub returns-in-Ok : goal.returns-in-Ok
returns-in-Ok g c =
    let output = c.in-Ok.output in
    let found = c.in-Ok.ensures in
    audited found.0 c.in_ok-read_prices.ensures.name
    (subst (λ prices. IsAudited c.args.audit.now.json found.0 prices (string_bytes output.text) output.status) c.deref-4.ensures.value found.1)
