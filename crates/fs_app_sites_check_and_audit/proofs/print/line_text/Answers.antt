use Rattle.std.proofs.Common.{◌∙◌, ap, flat_map}
use Rattle.std.proofs.lemmas.Result.{IfOk-weaker}
use Rattle.fs_app_sites_check_and_audit.specs.Printed.{row_text}
use Rattle.fs_app_sites_check_and_audit.proofs.Rows.{cells}
use Rattle.fs_app_sites_check_and_audit.proofs.print.line_text.Goals as goal

pub returns : goal.returns
returns c =
    IfOk-weaker c.format.result _ _
    (λ text is. is
    ∙ cells c.as_str.result.now c.as_str-2.result.now c.as_str-3.result.now c.as_str-4.result.now _ _ _ _
    (c.as_str.ensures.value ∙ c.in_ok-site.ensures) (c.as_str-2.ensures.value ∙ c.in_ok-fence.ensures)
    (c.as_str-3.ensures.value ∙ c.in_ok-advice.ensures) (c.as_str-4.ensures.value ∙ c.in_ok-rows.ensures ∙ ap (flat_map (row_text c.args.files.now)) c.as_slice.ensures))
    c.format.ensures.ok
