use Rattle.std.proofs.Common.{◌≡◌, false, length}
use Rattle.fs_app_file_text.specs.Added.{is_same_line}
use Rattle.fs_app_file_text.proofs.added.is_same_line.Given as goal

-- what is to come decides
abbrev pub invariant-loop-first : goal.invariant-loop-first
invariant-loop-first l = is_same_line l.was l.rest l.others ≡ is_same_line false l.fn.old l.fn.new

abbrev pub decreases-loop-first : goal.decreases-loop-first
decreases-loop-first l = length l.rest
