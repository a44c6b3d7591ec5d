use Rattle.std.proofs.Common.{◌≡◌, length}
use Rattle.fs_app_file_text.specs.Added.{begins_label}
use Rattle.fs_app_file_text.proofs.added.begins_label.Given as goal

-- what is to come decides
abbrev pub invariant-loop-first : goal.invariant-loop-first
invariant-loop-first l = begins_label l.rest ≡ begins_label l.fn.bytes

abbrev pub decreases-loop-first : goal.decreases-loop-first
decreases-loop-first l = length l.rest
