use Rattle.fs_board_offers.proofs.Ended.{lead-stays, step-holder, lead-once, lead-bound}
use Rattle.fs_board_offers.proofs.endings.ended_nodes_stay.Goals as goal

pub returns-clause-stays : goal.returns-clause-stays
returns-clause-stays c = lead-stays

pub returns-clause-holder : goal.returns-clause-holder
returns-clause-holder c = step-holder

pub returns-clause-once : goal.returns-clause-once
returns-clause-once c = lead-once

pub returns-clause-bound : goal.returns-clause-bound
returns-clause-bound c = lead-bound
