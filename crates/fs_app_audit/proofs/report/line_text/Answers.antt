use Rattle.std.proofs.Common.{◌∙◌}
use Rattle.std.proofs.lemmas.Result.{IfOk-weaker}
use Rattle.fs_app_audit.proofs.Rows.{cells}
use Rattle.fs_app_audit.proofs.report.line_text.Goals as goal

pub returns : goal.returns
returns c =
    IfOk-weaker c.format.result _ _
    (λ text is. is
    ∙ cells c.as_str.result.now c.as_str-2.result.now c.as_str-3.result.now c.as_str-4.result.now _ _ _ _
    (c.as_str.ensures.value ∙ c.in_ok-line.ensures) (c.as_str-2.ensures.value ∙ c.in_ok-place.ensures)
    (c.as_str-3.ensures.value ∙ c.in_ok-fence.ensures) (c.as_str-4.ensures.value ∙ c.in_ok-advice.ensures))
    c.format.ensures.ok
