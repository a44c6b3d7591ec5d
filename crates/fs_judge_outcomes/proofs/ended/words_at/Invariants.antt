use Rattle.std.proofs.Common.{◌≡◌, map, take}
use Rattle.fs_check.specs.Ordered.{execution_in}
use Rattle.fs_judge_outcomes.specs.States.{word_at}
use Rattle.fs_judge_outcomes.proofs.ended.words_at.Given as goal

-- the words so far
abbrev pub invariant-loop-place : goal.invariant-loop-place
invariant-loop-place l = l.words.items ≡ map (word_at l.test (execution_in l.ordered)) (take l.place-index l.places)
