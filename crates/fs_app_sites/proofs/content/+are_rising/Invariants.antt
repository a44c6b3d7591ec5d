use Rattle.std.proofs.Common.{length}
use Rattle.fs_app_sites.proofs.content.+are_rising.Given as goal

abbrev pub decreases-are_rising : goal.decreases-are_rising
decreases-are_rising l = length l.copies.now
