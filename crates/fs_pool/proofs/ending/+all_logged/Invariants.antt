use Rattle.std.proofs.Common.{length}
use Rattle.fs_pool.proofs.ending.+all_logged.Given as goal

abbrev pub decreases-all_logged : goal.decreases-all_logged
decreases-all_logged g l = length l.passes.now
