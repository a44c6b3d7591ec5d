use Rattle.std.proofs.Common.{◌≡◌, [], map}
use Rattle.fs_model.specs.Numbers.{numbers_below}
use Rattle.fs_hart.specs.Steps.{steps_in}
use Rattle.fs_region_refutation.proofs.idle.idle_traces.Given as goal

abbrev pub invariant-loop-hart : goal.invariant-loop-hart
invariant-loop-hart l = steps_in l.traces.items ≡ map (λ h. []) (numbers_below l.hart)
