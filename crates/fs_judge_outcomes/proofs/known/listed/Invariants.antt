use Rattle.std.proofs.Common.{◌≡◌, map}
use Rattle.fs_judge_outcomes.specs.inner.Parts.{state_in}
use Rattle.fs_judge_outcomes.proofs.known.listed.Given as goal

abbrev pub invariant-loop-words : goal.invariant-loop-words
invariant-loop-words l = l.states.items ≡ map state_in l.yielded
