use Rattle.std.proofs.Common.{◌≡◌}
use Rattle.fs_model.specs.Condition.{condition_of}
use Rattle.fs_judge_outcomes.proofs.Seen.{SeenEnds}
use Rattle.fs_judge_outcomes.proofs.search.Search.ends_of.Given as goal

abbrev pub invariant-loop-run : goal.invariant-loop-run
invariant-loop-run l =
    (l.self.wanted ≡ l.fn.self.wanted) × (l.self.bounded ≡ l.fn.self.bounded)
    × SeenEnds l.fn.self.wanted (condition_of l.condition) l.hart l.runs l.run-index l.ends.items
