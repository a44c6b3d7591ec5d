use Rattle.fs_board_offers.proofs.Splitting.{history-split}
use Rattle.fs_board_offers.proofs.histories.children_stand.Goals as goal

pub returns : goal.returns
returns c = history-split
