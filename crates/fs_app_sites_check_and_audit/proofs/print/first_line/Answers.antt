use Rattle.std.proofs.Common.{◌∙◌}
use Rattle.std.proofs.lemmas.Result.{IfOk-weaker}
use Rattle.fs_app_audit.proofs.Rows.{parts}
use Rattle.fs_app_sites_check_and_audit.proofs.print.first_line.Goals as goal

pub returns : goal.returns
returns c =
    IfOk-weaker c.format.result _ _
    (λ text is. is
    ∙ parts c.kind_text.result.now c.as_str.result.now c.as_str-2.result.now _ _ _
    c.kind_text.ensures (c.as_str.ensures.value ∙ c.in_ok-written.ensures) (c.as_str-2.ensures.value ∙ c.in_ok-cheapest.ensures))
    c.format.ensures.ok
