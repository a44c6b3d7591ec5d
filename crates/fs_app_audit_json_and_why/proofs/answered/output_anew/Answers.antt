use Rattle.std.proofs.Common.{◌≡◌, ◌∙◌, ap, false, sym, subst}
use Rattle.serde_json.specs.Written.{has_float}
use Rattle.fs_report.specs.Objects.{json_line}
use Rattle.fs_app_audit.specs.inner.Made.{findings_of}
use Rattle.fs_app_audit_json_and_why.proofs.Whole.{anew_whole}
use Rattle.fs_app_audit_json_and_why.proofs.answered.output_anew.Goals as goal

pub json_line-requires : goal.json_line-requires
json_line-requires c =
    subst (λ d. has_float d ≡ false) (sym c.in_ok-value.ensures) (anew_whole c.args.name.now (findings_of c.args.found.now))

pub returns-clause-text : goal.returns-clause-text
returns-clause-text c = c.in_ok-text.ensures ∙ ap json_line c.in_ok-value.ensures
