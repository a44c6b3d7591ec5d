use Rattle.std.proofs.Common.{length}
use Rattle.fs_cand_listing.proofs.by_number.+push_sources.Given as goal

abbrev pub decreases-push_sources : goal.decreases-push_sources
decreases-push_sources l = length l.lists.now
