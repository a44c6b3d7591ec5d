use Rattle.std.proofs.Common.{◌≡◌, ◌+◌, length}
use Rattle.fs_model.specs.Condition.{condition_of}
use Rattle.fs_judge_outcomes.specs.inner.Ends.{CanEnd, with_location}
use Rattle.fs_judge_outcomes.proofs.Searching.{NoneBelow}
use Rattle.fs_judge_outcomes.proofs.search.Search.+can_end.Given as goal

abbrev pub decreases-can_end : goal.decreases-can_end
decreases-can_end l = length l.firsts.now

-- the words so far lead nowhere
abbrev pub invariant-loop-word : goal.invariant-loop-word
invariant-loop-word l =
    (l.self.wanted ≡ l.fn.self.wanted) × (l.self.bounded ≡ l.fn.self.bounded)
    × NoneBelow (λ word. CanEnd (l.location + 1) l.rest l.stored l.fn.self.wanted (with_location l.location word (condition_of l.condition)))
    l.word-index l.word-items
