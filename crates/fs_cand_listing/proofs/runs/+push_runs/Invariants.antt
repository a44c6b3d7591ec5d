use Rattle.std.proofs.Common.{length}
use Rattle.fs_cand_listing.proofs.runs.+push_runs.Given as goal

abbrev pub decreases-push_runs : goal.decreases-push_runs
decreases-push_runs l = length l.lists.now
