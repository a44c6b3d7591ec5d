use Rattle.fs_check.proofs.OneVerdict.{no_reason_and_yes, one_reason}
use Rattle.fs_check.proofs.laws.one_verdict.Goals as goal

pub returns-clause-apart : goal.returns-clause-apart
returns-clause-apart c = no_reason_and_yes

pub returns-clause-once : goal.returns-clause-once
returns-clause-once c = one_reason
