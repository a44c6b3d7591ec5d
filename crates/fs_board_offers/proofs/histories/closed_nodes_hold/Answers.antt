use Rattle.fs_board_offers.proofs.Closed.{history-right}
use Rattle.fs_board_offers.proofs.histories.closed_nodes_hold.Goals as goal

pub returns-clause-closed : goal.returns-clause-closed
returns-clause-closed c = λ t offers limit log board history. (history-right t offers limit log board history).closed

pub returns-clause-bound : goal.returns-clause-bound
returns-clause-bound c = λ t offers limit log board history. (history-right t offers limit log board history).bound
