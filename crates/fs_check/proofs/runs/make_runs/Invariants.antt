use Rattle.std.proofs.Common.{◌≡◌, length}
use Rattle.fs_check.specs.inner.WitnessRuns.{AreWholeRuns}
use Rattle.fs_check.proofs.runs.make_runs.Given as goal

-- the runs of the harts so far
abbrev pub invariant-loop-hart : goal.invariant-loop-hart
invariant-loop-hart l = (length l.traces.items ≡ l.hart) × AreWholeRuns l.test l.choices l.traces.items
