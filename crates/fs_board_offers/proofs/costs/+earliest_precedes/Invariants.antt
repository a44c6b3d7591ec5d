use Rattle.std.proofs.Common.{length}
use Rattle.fs_board_offers.proofs.costs.+earliest_precedes.Given as goal

abbrev pub decreases-earliest_precedes : goal.decreases-earliest_precedes
decreases-earliest_precedes l = length l.part.now
