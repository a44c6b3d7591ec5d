use Rattle.fs_model_worked_examples.proofs.Adding.{first_round, all}
use Rattle.fs_model_worked_examples.proofs.values.values_of_two_adds.Goals as goal

pub returns-clause-first_round : goal.returns-clause-first_round
returns-clause-first_round c = first_round

pub returns-clause-all : goal.returns-clause-all
returns-clause-all c = all
