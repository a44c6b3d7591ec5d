use Rattle.std.proofs.lemmas.Result.{IfOk-weaker}
use Rattle.fs_app.specs.Answers.{mended}
use Rattle.fs_app.proofs.audits.answer_audit.Goals as goal

pub returns-then-audit : goal.returns-then-audit
returns-then-audit g c =
    IfOk-weaker c.answer_in_place.result _ _ (λ output h. mended c.if-audit.true h) c.answer_in_place.ensures
