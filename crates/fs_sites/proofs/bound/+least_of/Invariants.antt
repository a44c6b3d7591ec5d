use Rattle.std.proofs.Common.{length}
use Rattle.fs_sites.proofs.bound.+least_of.Given as goal

abbrev pub decreases-least_of : goal.decreases-least_of
decreases-least_of l = length l.kinds.now
