use Rattle.std.proofs.Common.{◌≡◌, take}
use Rattle.fs_judge_outcomes.proofs.asked.copied_starts.Given as goal

-- the copies so far
abbrev pub invariant-loop-words : goal.invariant-loop-words
invariant-loop-words l = l.made.items ≡ take l.words-index l.starts
