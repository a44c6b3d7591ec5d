use Rattle.std.proofs.Common.{◌≡◌, take}
use Rattle.fs_judge_outcomes.proofs.asked.copied_codes.Given as goal

-- the copies so far
abbrev pub invariant-loop-code : goal.invariant-loop-code
invariant-loop-code l = l.made.items ≡ take l.code-index l.codes
