use Rattle.std.proofs.Common.{length}
use Rattle.fs_board_offers.proofs.costs.+precedes.Given as goal

abbrev pub decreases-precedes : goal.decreases-precedes
decreases-precedes l = length l.placement.now
