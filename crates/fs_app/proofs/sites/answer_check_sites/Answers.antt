use Rattle.std.proofs.Common.{rules, string_bytes, subst, sym}
use Rattle.fs_app_sites_check_and_audit.specs.Checked.{IsSitesChecked}
use Rattle.fs_app.specs.Answers.{checked}
use Rattle.fs_app.proofs.sites.answer_check_sites.Goals as goal

pub returns-in-Ok : goal.returns-in-Ok
returns-in-Ok g c =
    let made = c.in-Ok.checked in
    let found = c.in-Ok.ensures in
    let papers = c.read_evidence.new.self in
    checked found.0 (string_bytes made.output.text) (string_bytes made.object) found.1 (search rules) (search rules)
    (subst (IsSitesChecked found.0 papers.prices.bytes.items papers.evidence.bytes.items (string_bytes made.output.text)
    (string_bytes made.object)) (sym c.in_form.ensures.status) found.2)
    c.in_form.ensures.text
