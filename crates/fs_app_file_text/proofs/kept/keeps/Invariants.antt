use Rattle.std.proofs.Common.{◌≡◌, false, length}
use Rattle.fs_app_file_text.specs.Kept.{keeps}
use Rattle.fs_app_file_text.proofs.kept.keeps.Given as goal

-- what is to come decides
abbrev pub invariant-loop-first : goal.invariant-loop-first
invariant-loop-first l = keeps l.was l.rest l.others ≡ keeps false l.fn.old l.fn.new

abbrev pub decreases-loop-first : goal.decreases-loop-first
decreases-loop-first l = length l.rest
