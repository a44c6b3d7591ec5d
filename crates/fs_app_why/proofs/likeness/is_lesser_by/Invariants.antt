use Rattle.std.proofs.Common.{◌≡◌, length}
use Rattle.fs_app_why.specs.Kinds.{is_lesser_by}
use Rattle.fs_app_why.proofs.likeness.is_lesser_by.Given as goal

-- it lies in what is to come
abbrev pub invariant-loop-a : goal.invariant-loop-a
invariant-loop-a l = is_lesser_by l.by l.first l.second ≡ is_lesser_by l.by l.fn.first l.fn.second

abbrev pub decreases-loop-a : goal.decreases-loop-a
decreases-loop-a l = length l.first
