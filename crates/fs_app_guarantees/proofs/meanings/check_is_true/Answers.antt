use Rattle.fs_app_guarantees.proofs.Promised.{check_printed, check_placed}
use Rattle.fs_app_guarantees.proofs.meanings.check_is_true.Goals as goal

pub returns-clause-printed : goal.returns-clause-printed
returns-clause-printed c = check_printed

pub returns-clause-placed : goal.returns-clause-placed
returns-clause-placed c = check_placed
