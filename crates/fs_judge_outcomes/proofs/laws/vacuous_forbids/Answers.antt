use Rattle.fs_judge_outcomes.proofs.Forbidden.{way_of, vacuous_forbids, never_shown}
use Rattle.fs_judge_outcomes.proofs.laws.vacuous_forbids.Goals as goal

pub returns-clause-way : goal.returns-clause-way
returns-clause-way c = way_of

pub returns-clause-forbidden : goal.returns-clause-forbidden
returns-clause-forbidden c = vacuous_forbids

pub returns-clause-fenced : goal.returns-clause-fenced
returns-clause-fenced c = never_shown
