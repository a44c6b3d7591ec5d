use Rattle.std.proofs.Common.{◌≤◌, length}
use Rattle.fs_cand.specs.Candidates.{AreShort}
use Rattle.fs_tests_shared.proofs.listing.picked.Given as goal

abbrev pub invariant-loop-runs_of_hart : goal.invariant-loop-runs_of_hart
invariant-loop-runs_of_hart l = (length l.traces.items ≤ 8) × AreShort l.traces.items
