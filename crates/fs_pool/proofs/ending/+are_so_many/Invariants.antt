use Rattle.std.proofs.Common.{length}
use Rattle.fs_pool.proofs.ending.+are_so_many.Given as goal

abbrev pub decreases-are_so_many : goal.decreases-are_so_many
decreases-are_so_many g l = length l.passes.now
