use Rattle.std.proofs.Common.{length}
use Rattle.fs_board_offers.proofs.costs.+is_same.Given as goal

abbrev pub decreases-is_same : goal.decreases-is_same
decreases-is_same l = length l.placement.now
