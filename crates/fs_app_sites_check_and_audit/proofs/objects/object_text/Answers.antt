use Rattle.std.proofs.Common.{◌≡◌, ap, false, subst, sym, ◌∙◌}
use Rattle.std.proofs.lemmas.Result.{IfOk-weaker}
use Rattle.serde_json.specs.Written.{has_float}
use Rattle.fs_report.specs.Objects.{json_line}
use Rattle.fs_app_sites_check_and_audit.proofs.Whole.{whole}
use Rattle.fs_app_sites_check_and_audit.proofs.objects.object_text.Goals as goal

pub json_line-requires : goal.json_line-requires
json_line-requires c = subst (λ d. has_float d ≡ false) (sym c.in_ok-value.ensures) (whole c.args.files.now c.args.findings.now)

pub returns : goal.returns
returns c = IfOk-weaker c.json_line.result _ _ (λ text is. is ∙ ap json_line c.in_ok-value.ensures) c.json_line.ensures
