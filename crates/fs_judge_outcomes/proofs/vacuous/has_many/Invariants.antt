use Rattle.std.proofs.Common.{◌≤◌}
use Rattle.fs_region_refutation.specs.Runs.{runs_over}
use Rattle.fs_judge_outcomes.specs.Vacuous.{lists_of}
use Rattle.fs_judge_outcomes.proofs.vacuous.has_many.Given as goal

abbrev pub invariant-loop-hart : goal.invariant-loop-hart
invariant-loop-hart l = l.lists ≤ lists_of (runs_over l.runs) l.hart
