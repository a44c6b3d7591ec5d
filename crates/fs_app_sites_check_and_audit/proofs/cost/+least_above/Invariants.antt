use Rattle.std.proofs.Common.{length}
use Rattle.fs_app_sites_check_and_audit.proofs.cost.+least_above.Given as goal

abbrev pub decreases-least_above : goal.decreases-least_above
decreases-least_above l = length l.kinds.now
