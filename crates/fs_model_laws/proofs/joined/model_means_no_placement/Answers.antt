use Rattle.fs_model_laws.proofs.NoPlacement.{same_executions, same_allowed}
use Rattle.fs_model_laws.proofs.joined.model_means_no_placement.Goals as goal

pub returns-clause-executions : goal.returns-clause-executions
returns-clause-executions c = same_executions

pub returns-clause-allowed : goal.returns-clause-allowed
returns-clause-allowed c = same_allowed
