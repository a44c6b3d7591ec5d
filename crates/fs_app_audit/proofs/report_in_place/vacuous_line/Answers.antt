use Rattle.std.proofs.Common.{◌∙◌}
use Rattle.std.proofs.lemmas.Result.{IfOk-weaker}
use Rattle.fs_app_audit.proofs.Rows.{vacuous_parts}
use Rattle.fs_app_audit.proofs.report_in_place.vacuous_line.Goals as goal

pub returns : goal.returns
returns c = IfOk-weaker c.format.result _ _ (λ text is. is ∙ vacuous_parts _ _) c.format.ensures.ok
