use Rattle.std.proofs.Common.{◌≡◌, ◌+◌, ◌++◌, length}
use Rattle.fs_model.specs.Condition.{condition_of}
use Rattle.fs_judge_outcomes.specs.inner.Ends.{CanShow, with_hart}
use Rattle.fs_judge_outcomes.proofs.Searching.{NoneBelow}
use Rattle.fs_judge_outcomes.proofs.search.Search.+can_show.Given as goal

abbrev pub decreases-can_show : goal.decreases-can_show
decreases-can_show l = length l.lists.now

-- the ends so far lead nowhere
abbrev pub invariant-loop-end : goal.invariant-loop-end
invariant-loop-end l =
    (l.self.wanted ≡ l.fn.self.wanted) × (l.self.bounded ≡ l.fn.self.bounded)
    × NoneBelow (λ end. CanShow (l.hart + 1) l.rest l.firsts (l.stored ++ end.stored) l.fn.self.wanted
    (with_hart l.hart end.registers (condition_of l.condition))) l.end-index l.end-items
