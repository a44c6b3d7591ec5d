use Rattle.fs_judge_outcomes.proofs.Halves.{Splitting}
use Rattle.fs_judge_outcomes.proofs.splitting.split.Given as goal

abbrev pub invariant-loop-index : goal.invariant-loop-index
invariant-loop-index l = Splitting l.initial.part l.state l.initial.parts.items l.index l.part l.parts.items
