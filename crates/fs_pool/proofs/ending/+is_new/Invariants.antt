use Rattle.std.proofs.Common.{length}
use Rattle.fs_pool.proofs.ending.+is_new.Given as goal

abbrev pub decreases-is_new : goal.decreases-is_new
decreases-is_new g l = length l.passes.now
