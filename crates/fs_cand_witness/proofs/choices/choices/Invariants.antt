use Rattle.std.proofs.Common.{◌≡◌, map, take}
use Rattle.fs_hart.specs.Steps.{steps_in}
use Rattle.fs_cand_witness.specs.inner.Reading.{chosen}
use Rattle.fs_cand_witness.proofs.choices.choices.Given as goal

-- the choices of the runs so far
abbrev pub invariant-loop-trace : goal.invariant-loop-trace
invariant-loop-trace l = l.lists.items ≡ map chosen (steps_in (take l.trace-index l.traces))
