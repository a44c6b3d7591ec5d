use Rattle.std.proofs.Common.{length}
use Rattle.fs_litmus.proofs.Trimming.{IsBetween}
use Rattle.fs_litmus.proofs.title.trimmed.Given as goal

abbrev pub invariant-loop-last : goal.invariant-loop-last
invariant-loop-last l = IsBetween l.fn.line l.text

abbrev pub decreases-loop-last : goal.decreases-loop-last
decreases-loop-last l = length l.text
