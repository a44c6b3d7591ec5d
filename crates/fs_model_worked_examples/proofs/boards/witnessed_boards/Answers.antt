use Rattle.fs_model_worked_examples.proofs.Witnessed.{closed, held}
use Rattle.fs_model_worked_examples.proofs.boards.witnessed_boards.Goals as goal

pub returns-clause-closed : goal.returns-clause-closed
returns-clause-closed c = closed

pub returns-clause-held : goal.returns-clause-held
returns-clause-held c = held
