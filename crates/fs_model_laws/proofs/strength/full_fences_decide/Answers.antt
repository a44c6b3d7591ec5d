use Rattle.fs_model_laws.proofs.Filled.{filled-shows, unanswered, decided}
use Rattle.fs_model_laws.proofs.strength.full_fences_decide.Goals as goal

pub returns-clause-shown : goal.returns-clause-shown
returns-clause-shown c = filled-shows

pub returns-clause-unanswered : goal.returns-clause-unanswered
returns-clause-unanswered c = unanswered

pub returns-clause-decides : goal.returns-clause-decides
returns-clause-decides c = decided
