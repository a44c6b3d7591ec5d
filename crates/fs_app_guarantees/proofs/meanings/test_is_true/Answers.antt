use Rattle.fs_app_guarantees.proofs.Promised.{test_printed, test_placed}
use Rattle.fs_app_guarantees.proofs.meanings.test_is_true.Goals as goal

pub returns-clause-printed : goal.returns-clause-printed
returns-clause-printed c = test_printed

pub returns-clause-placed : goal.returns-clause-placed
returns-clause-placed c = test_placed
