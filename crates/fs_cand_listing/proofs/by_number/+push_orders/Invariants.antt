use Rattle.std.proofs.Common.{length}
use Rattle.fs_cand_listing.proofs.by_number.+push_orders.Given as goal

abbrev pub decreases-push_orders : goal.decreases-push_orders
decreases-push_orders l = length l.stores.now
