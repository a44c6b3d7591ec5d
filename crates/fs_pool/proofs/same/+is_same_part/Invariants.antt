use Rattle.std.proofs.Common.{length}
use Rattle.fs_pool.proofs.same.+is_same_part.Given as goal

abbrev pub decreases-is_same_part : goal.decreases-is_same_part
decreases-is_same_part l = length l.part.now
