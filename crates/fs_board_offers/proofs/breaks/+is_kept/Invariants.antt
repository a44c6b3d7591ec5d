use Rattle.std.proofs.Common.{length}
use Rattle.fs_board_offers.proofs.breaks.+is_kept.Given as goal

abbrev pub decreases-is_kept : goal.decreases-is_kept
decreases-is_kept l = length l.part.now
