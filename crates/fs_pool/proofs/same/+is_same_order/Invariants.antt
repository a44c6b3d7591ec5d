use Rattle.std.proofs.Common.{length}
use Rattle.fs_pool.proofs.same.+is_same_order.Given as goal

abbrev pub decreases-is_same_order : goal.decreases-is_same_order
decreases-is_same_order l = length l.names.now
