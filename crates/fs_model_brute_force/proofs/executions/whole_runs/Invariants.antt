use Rattle.std.proofs.Common.{◌≡◌, ℕ, ◌<◌, [], map, take}
use Rattle.std.specs.List.{slice_index_or}
use Rattle.fs_model.specs.Operations.{steps_of}
use Rattle.fs_model.specs.Execution.{IsTrace}
use Rattle.fs_hart.specs.Runs.{registers_after}
use Rattle.fs_hart.specs.Steps.{steps_in}
use Rattle.fs_model_brute_force.proofs.executions.whole_runs.Given as goal

-- the runs of the first harts, with their registers
abbrev pub invariant-loop-hart : goal.invariant-loop-hart
invariant-loop-hart l =
    (steps_in l.traces.items ≡ take l.hart l.runs)
    × ((k : ℕ) → k < l.hart → IsTrace l.test k (steps_of l.runs k))
    × ((k : ℕ) → k < l.hart
    → slice_index_or (map (λ trace. trace.registers) l.traces.items) k [] ≡ registers_after l.test k (steps_of l.runs k))
