use Rattle.fs_model_worked_examples.proofs.Ties.{later_posted, earlier_posted}
use Rattle.fs_model_worked_examples.proofs.boards.equal_costs.Goals as goal

pub returns-clause-earlier_last : goal.returns-clause-earlier_last
returns-clause-earlier_last c = later_posted

pub returns-clause-earlier_first : goal.returns-clause-earlier_first
returns-clause-earlier_first c = earlier_posted
