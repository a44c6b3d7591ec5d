use Rattle.std.proofs.Common.{string_bytes}
use Rattle.std.proofs.lemmas.Result.{IfOk-weaker}
use Rattle.fs_app_why.proofs.Texts.{marked_early, marked_late}
use Rattle.fs_app_why.proofs.marks.mark_text.Goals as goal

pub returns-then-is_told_early : goal.returns-then-is_told_early
returns-then-is_told_early c =
    IfOk-weaker c.early_mark.result _ _
    (λ text is. marked_early c.args.lines.now c.args.told.now c.args.a c.is_told_early.result (string_bytes text) c.is_told_early.ensures
    c.if-is_told_early.true is)
    c.early_mark.ensures

pub returns-else-is_told_early : goal.returns-else-is_told_early
returns-else-is_told_early c =
    IfOk-weaker c.late_mark.result _ _
    (λ text is. marked_late c.args.lines.now c.args.told.now c.args.a c.is_told_early.result (string_bytes text) c.is_told_early.ensures
    c.if-is_told_early.false is)
    c.late_mark.ensures
