use Rattle.fs_model_worked_examples.proofs.Limits.{history}
use Rattle.fs_model_worked_examples.proofs.boards.full_board.Goals as goal

pub returns : goal.returns
returns c = record { history = history }
