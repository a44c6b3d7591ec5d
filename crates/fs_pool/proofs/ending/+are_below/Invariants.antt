use Rattle.std.proofs.Common.{length}
use Rattle.fs_pool.proofs.ending.+are_below.Given as goal

abbrev pub decreases-are_below : goal.decreases-are_below
decreases-are_below g l = length l.passes.now
