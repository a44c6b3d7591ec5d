use Rattle.fs_model_laws.proofs.FencedLaw.{same_executions, same_shown, same_allowed}
use Rattle.fs_model_laws.proofs.fenced.no_entries_no_fences.Goals as goal

pub returns-clause-executions : goal.returns-clause-executions
returns-clause-executions c = same_executions

pub returns-clause-shown : goal.returns-clause-shown
returns-clause-shown c = same_shown

pub returns-clause-allowed : goal.returns-clause-allowed
returns-clause-allowed c = same_allowed
