use Rattle.fs_app_guarantees.proofs.SolvesOnce.{solves_once}
use Rattle.fs_app_guarantees.proofs.lines.solve_answers_once.Goals as goal

pub returns : goal.returns
returns c = solves_once
