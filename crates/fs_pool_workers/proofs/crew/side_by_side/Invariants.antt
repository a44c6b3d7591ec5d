use Rattle.std.proofs.Common.{vec_len}
use Rattle.fs_pool_workers.proofs.crew.side_by_side.Given as goal

abbrev pub decreases-loop-pass : goal.decreases-loop-pass
decreases-loop-pass g l = vec_len l.passes
