use Rattle.fs_app_guarantees.proofs.Promised.{states_printed, states_placed}
use Rattle.fs_app_guarantees.proofs.meanings.states_are_true.Goals as goal

pub returns-clause-printed : goal.returns-clause-printed
returns-clause-printed c = states_printed

pub returns-clause-placed : goal.returns-clause-placed
returns-clause-placed c = states_placed
