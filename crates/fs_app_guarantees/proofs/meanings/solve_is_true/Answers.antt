use Rattle.fs_app_guarantees.proofs.Promised.{solve_printed, solve_placed}
use Rattle.fs_app_guarantees.proofs.meanings.solve_is_true.Goals as goal

pub returns-clause-printed : goal.returns-clause-printed
returns-clause-printed c = solve_printed

pub returns-clause-placed : goal.returns-clause-placed
returns-clause-placed c = solve_placed
