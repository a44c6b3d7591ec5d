use Rattle.fs_cand.proofs.Growing.{AreDepsBelow}
use Rattle.fs_cand.proofs.lists.Dependencies.of.Given as goal

abbrev pub invariant-loop-trace : goal.invariant-loop-trace
invariant-loop-trace l = AreDepsBelow l.traces l.deps.items l.trace-index
