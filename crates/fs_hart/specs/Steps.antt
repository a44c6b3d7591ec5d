-- The steps of runs.
use Rattle.std.specs.Prelude.{List, map}
use Rattle.fs_model.specs.declared.step.Step.{Step}
use Rattle.fs_hart.specs.declared.trace.Trace.{Trace}

-- the steps of each hart
abbrev pub steps_in : List Trace → List (List Step)
steps_in traces = map (λ trace. trace.steps) traces
