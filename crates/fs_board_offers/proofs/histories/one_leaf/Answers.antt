use Rattle.fs_board_offers.proofs.Leaves.{history-parts, history-leaf}
use Rattle.fs_board_offers.proofs.histories.one_leaf.Goals as goal

pub returns-clause-parts : goal.returns-clause-parts
returns-clause-parts c = history-parts

pub returns-clause-leaf : goal.returns-clause-leaf
returns-clause-leaf c = history-leaf
