use Rattle.fs_app_guarantees.proofs.KeptBoards.{steps_same, history_same, node_limit_same}
use Rattle.fs_app_guarantees.proofs.alike.same_tests_search_alike.Goals as goal

pub returns-clause-steps : goal.returns-clause-steps
returns-clause-steps c = steps_same

pub returns-clause-histories : goal.returns-clause-histories
returns-clause-histories c = history_same

pub returns-clause-limits : goal.returns-clause-limits
returns-clause-limits c = node_limit_same
