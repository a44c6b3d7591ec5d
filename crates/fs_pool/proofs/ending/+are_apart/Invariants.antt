use Rattle.std.proofs.Common.{length}
use Rattle.fs_pool.proofs.ending.+are_apart.Given as goal

abbrev pub decreases-are_apart : goal.decreases-are_apart
decreases-are_apart g l = length l.passes.now
