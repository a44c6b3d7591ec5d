use Rattle.std.proofs.Common.{length}
use Rattle.fs_pool.proofs.same.+is_same_placement.Given as goal

abbrev pub decreases-is_same_placement : goal.decreases-is_same_placement
decreases-is_same_placement l = length l.placement.now
