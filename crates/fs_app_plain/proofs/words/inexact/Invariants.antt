use Rattle.fs_app_plain.proofs.ExactRuns.{AreExactBefore}
use Rattle.fs_app_plain.proofs.words.inexact.Given as goal

-- the runs of the harts so far are exact
abbrev pub invariant-loop-hart : goal.invariant-loop-hart
invariant-loop-hart l = AreExactBefore l.test l.of_hart-items l.hart
