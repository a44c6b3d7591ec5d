use Rattle.fs_app_guarantees.proofs.Verdicts.{one_answer, not_refused, one_reason}
use Rattle.fs_app_guarantees.proofs.one_certificate_verdict.one_verdict.Goals as goal

pub returns-clause-answer : goal.returns-clause-answer
returns-clause-answer c = one_answer

pub returns-clause-apart : goal.returns-clause-apart
returns-clause-apart c = not_refused

pub returns-clause-once : goal.returns-clause-once
returns-clause-once c = one_reason
