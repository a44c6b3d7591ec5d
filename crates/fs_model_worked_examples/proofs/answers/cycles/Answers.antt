use Rattle.std.proofs.Common.{refl}
use Rattle.fs_model_worked_examples.proofs.CoherentReads.{showing, cycle}
use Rattle.fs_model_worked_examples.proofs.answers.cycles.Goals as goal

pub returns-clause-showing : goal.returns-clause-showing
returns-clause-showing c = showing

pub returns-clause-cycle : goal.returns-clause-cycle
returns-clause-cycle c = cycle

pub returns-clause-reason : goal.returns-clause-reason
returns-clause-reason c = λ p q. refl
