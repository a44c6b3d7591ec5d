use Rattle.std.proofs.Common.{length}
use Rattle.fs_sites.proofs.bound.+least_in.Given as goal

abbrev pub decreases-least_in : goal.decreases-least_in
decreases-least_in l = length l.bar.now
