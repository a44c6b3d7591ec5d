use Rattle.fs_app_guarantees.proofs.ReadLines.{one_answer}
use Rattle.fs_app_guarantees.proofs.lines.lines_say_one_answer.Goals as goal

pub returns : goal.returns
returns c = one_answer
