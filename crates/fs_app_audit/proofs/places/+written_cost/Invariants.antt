use Rattle.std.proofs.Common.{length}
use Rattle.fs_app_audit.proofs.places.+written_cost.Given as goal

abbrev pub decreases-written_cost : goal.decreases-written_cost
decreases-written_cost l = length l.offers.now
