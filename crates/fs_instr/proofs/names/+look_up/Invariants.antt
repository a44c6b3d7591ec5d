use Rattle.std.proofs.Common.{length}
use Rattle.fs_instr.proofs.names.+look_up.Given as goal

abbrev pub decreases-look_up : goal.decreases-look_up
decreases-look_up l = length l.rows.now
