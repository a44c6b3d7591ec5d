use Rattle.std.proofs.Common.{length}
use Rattle.fs_board_offers.proofs.costs.+floor_precedes.Given as goal

abbrev pub decreases-floor_precedes : goal.decreases-floor_precedes
decreases-floor_precedes l = length l.part.now
