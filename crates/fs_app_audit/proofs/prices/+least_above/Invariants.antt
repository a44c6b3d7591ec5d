use Rattle.std.proofs.Common.{length}
use Rattle.fs_app_audit.proofs.prices.+least_above.Given as goal

abbrev pub decreases-least_above : goal.decreases-least_above
decreases-least_above l = length l.kinds.now
