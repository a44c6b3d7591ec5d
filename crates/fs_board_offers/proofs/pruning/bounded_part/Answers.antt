use Rattle.fs_board_offers.proofs.Bounded.{bounded}
use Rattle.fs_board_offers.proofs.pruning.bounded_part.Goals as goal

pub returns : goal.returns
returns c = bounded
