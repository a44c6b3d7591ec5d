use Rattle.std.proofs.Common.{◌≡◌, length}
use Rattle.fs_app_states.specs.Report.{word_in}
use Rattle.fs_app_states.proofs.report.word_in.Given as goal

-- what is left decides
abbrev pub invariant-loop-column : goal.invariant-loop-column
invariant-loop-column l = word_in l.columns l.words l.place ≡ word_in l.fn.columns l.fn.words l.fn.place

abbrev pub decreases-loop-column : goal.decreases-loop-column
decreases-loop-column l = length l.columns
