use Rattle.std.proofs.Common.{length}
use Rattle.fs_judge_outcomes.proofs.settled.+word_in.Given as goal

abbrev pub decreases-word_in : goal.decreases-word_in
decreases-word_in l = length l.known.now
