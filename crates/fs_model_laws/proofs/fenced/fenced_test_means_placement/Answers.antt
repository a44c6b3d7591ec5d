use Rattle.fs_model_laws.proofs.FencedSame.{allows_as_read}
use Rattle.fs_model_laws.proofs.FencedLaw.{executes_alike, shows_alike, allows_alike}
use Rattle.fs_model_laws.proofs.FencedOutcome.{outcome_same}
use Rattle.fs_model_laws.proofs.fenced.fenced_test_means_placement.Goals as goal

pub returns-clause-executions : goal.returns-clause-executions
returns-clause-executions c = executes_alike

pub returns-clause-outcome : goal.returns-clause-outcome
returns-clause-outcome c = outcome_same

pub returns-clause-shown : goal.returns-clause-shown
returns-clause-shown c = shows_alike

pub returns-clause-allowed : goal.returns-clause-allowed
returns-clause-allowed c = allows_alike

pub returns-clause-read : goal.returns-clause-read
returns-clause-read c = allows_as_read
