use Rattle.std.proofs.Common.{◌≡◌, take}
use Rattle.fs_cand_witness.specs.inner.Reading.{chosen}
use Rattle.fs_cand_witness.proofs.choices.choices_of.Given as goal

-- the choices of the steps so far
abbrev pub invariant-loop-step : goal.invariant-loop-step
invariant-loop-step l = l.choices.items ≡ chosen (take l.step-index l.steps)
