use Rattle.std.proofs.Common.{length}
use Rattle.fs_cand_listing.proofs.by_number.+push_order.Given as goal

abbrev pub decreases-push_order : goal.decreases-push_order
decreases-push_order l = length l.stores.now
