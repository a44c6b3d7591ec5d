use Rattle.fs_board_offers.proofs.Floors.{floor-cost, floor-best}
use Rattle.fs_board_offers.proofs.pruning.floor_is_least.Goals as goal

pub returns-clause-cheapest : goal.returns-clause-cheapest
returns-clause-cheapest c = floor-cost

pub returns-clause-best : goal.returns-clause-best
returns-clause-best c = floor-best
