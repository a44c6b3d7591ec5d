use Rattle.std.proofs.Common.{length}
use Rattle.fs_sites.proofs.breaking.+unbroken_rest.Given as goal

abbrev pub decreases-unbroken_rest : goal.decreases-unbroken_rest
decreases-unbroken_rest l = length l.bar.now
