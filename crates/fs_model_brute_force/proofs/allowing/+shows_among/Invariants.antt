use Rattle.std.proofs.Common.{◌≡◌, length}
use Rattle.fs_model_brute_force.proofs.Choosing.{NoneBefore}
use Rattle.fs_model_brute_force.proofs.allowing.+shows_among.Given as goal

abbrev pub decreases-shows_among : goal.decreases-shows_among
decreases-shows_among l = length l.lists.now

-- the runs are as they were, and go on with none of those tried
abbrev pub invariant-loop-trace : goal.invariant-loop-trace
invariant-loop-trace l =
    (l.traces.items ≡ l.fn.traces.items) × NoneBefore l.test l.placement l.rest l.fn.traces.items l.trace-items l.trace-index
