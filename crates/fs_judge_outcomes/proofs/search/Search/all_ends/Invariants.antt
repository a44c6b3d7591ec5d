use Rattle.std.proofs.Common.{◌≡◌}
use Rattle.fs_model.specs.Condition.{condition_of}
use Rattle.fs_judge_outcomes.proofs.Seen.{FirstEnds}
use Rattle.fs_judge_outcomes.proofs.search.Search.all_ends.Given as goal

abbrev pub invariant-loop-hart : goal.invariant-loop-hart
invariant-loop-hart l =
    (l.self.wanted ≡ l.fn.self.wanted) × (l.self.bounded ≡ l.fn.self.bounded)
    × FirstEnds l.fn.self.wanted (condition_of l.condition) l.runs l.hart l.lists.items
