use Rattle.std.proofs.Common.{◌∙◌}
use Rattle.fs_app_audit.proofs.Searched.{asked-top}
use Rattle.fs_app_audit.proofs.findings.offered_question.Goals as goal

pub returns-clause-top : goal.returns-clause-top
returns-clause-top c = asked-top _ _ _ (c.in_ok-new.ensures.ok ∙ c.in_ok-made.ensures.ok) c.of-table.ensures.table
