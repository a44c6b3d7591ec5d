use Rattle.std.proofs.Common.{◌≡◌, length}
use Rattle.fs_app_file_text.specs.Added.{begins_colon}
use Rattle.fs_app_file_text.proofs.added.begins_colon.Given as goal

-- what is to come decides
abbrev pub invariant-loop-first : goal.invariant-loop-first
invariant-loop-first l = begins_colon l.rest ≡ begins_colon l.fn.bytes

abbrev pub decreases-loop-first : goal.decreases-loop-first
decreases-loop-first l = length l.rest
