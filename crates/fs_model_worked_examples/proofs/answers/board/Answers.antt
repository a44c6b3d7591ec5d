use Rattle.std.proofs.Common.{refl}
use Rattle.fs_model_worked_examples.proofs.SearchBoard.{history}
use Rattle.fs_model_worked_examples.proofs.answers.board.Goals as goal

pub returns-clause-history : goal.returns-clause-history
returns-clause-history c = history

pub returns-clause-cost : goal.returns-clause-cost
returns-clause-cost c = refl
