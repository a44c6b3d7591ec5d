use Rattle.fs_app_guarantees.proofs.Outcomes.{allowed, possible}
use Rattle.fs_app_guarantees.proofs.states.states_tell_the_outcome.Goals as goal

pub returns-clause-allowed : goal.returns-clause-allowed
returns-clause-allowed c = allowed

pub returns-clause-possible : goal.returns-clause-possible
returns-clause-possible c = possible
