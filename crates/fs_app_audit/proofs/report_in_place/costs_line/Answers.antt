use Rattle.std.proofs.Common.{◌∙◌}
use Rattle.std.proofs.lemmas.Result.{IfOk-weaker}
use Rattle.fs_app_audit.proofs.Rows.{costs}
use Rattle.fs_app_audit.proofs.report_in_place.costs_line.Goals as goal

pub returns : goal.returns
returns c =
    IfOk-weaker c.format.result _ _
    (λ text is. is ∙ costs _ _ c.as_str.result.now _ (c.as_str.ensures.value ∙ c.in_ok-found.ensures)) c.format.ensures.ok
