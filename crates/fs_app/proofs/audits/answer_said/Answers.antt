use Rattle.std.proofs.Common.{◌∙◌, ap, map, string_bytes, sym}
use Rattle.std.proofs.lemmas.Result.{IfOk-weaker}
use Rattle.fs_app.specs.Answers.{alone, objects, several}
use Rattle.fs_app.proofs.audits.answer_said.Goals as goal

pub returns-then-is_alone : goal.returns-then-is_alone
returns-then-is_alone g c =
    IfOk-weaker c.answer_alone.result _ _
    (λ output h. alone c.in-Some.word.now c.if-audit.false (ap (map string_bytes) (sym c.as_slice.ensures.value) ∙ c.in-Some.ensures) h)
    c.answer_alone.ensures

pub returns-then-audit : goal.returns-then-audit
returns-then-audit g c =
    IfOk-weaker c.answer_objects.result _ _ (λ output h. objects c.if-audit.true h) c.answer_objects.ensures

pub returns : goal.returns
returns g c = IfOk-weaker c.answer_files.result _ _ (λ output h. several c.if-audit.false (sym c.wants_one.ensures ∙ c.if-wants_one.false) h) c.answer_files.ensures
