use Rattle.fs_verdict_laws.proofs.Sources.{two_harts, past_first, past_second}
use Rattle.fs_verdict_laws.proofs.local.rules_keep_to_harts.Goals as goal

pub returns-clause-apart : goal.returns-clause-apart
returns-clause-apart c = two_harts

pub returns-clause-first : goal.returns-clause-first
returns-clause-first c = past_first

pub returns-clause-second : goal.returns-clause-second
returns-clause-second c = past_second
