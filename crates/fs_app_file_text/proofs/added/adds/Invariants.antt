use Rattle.std.proofs.Common.{◌≡◌, false, true, length}
use Rattle.fs_app_file_text.specs.Added.{adds}
use Rattle.fs_app_file_text.proofs.added.adds.Given as goal

-- what is to come decides
abbrev pub invariant-loop-first : goal.invariant-loop-first
invariant-loop-first l = adds l.begins l.skips l.rest l.others ≡ adds true false l.fn.old l.fn.new

abbrev pub decreases-loop-first : goal.decreases-loop-first
decreases-loop-first l = length l.others
