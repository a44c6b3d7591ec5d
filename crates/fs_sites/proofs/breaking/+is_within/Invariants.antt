use Rattle.std.proofs.Common.{length}
use Rattle.fs_sites.proofs.breaking.+is_within.Given as goal

abbrev pub decreases-is_within : goal.decreases-is_within
decreases-is_within l = length l.bar.now
