-- All runs of each hart over sets.
use Rattle.std.specs.Prelude.{◌≡◌, ℕ, ◌<◌, List, [], All, length}
use Rattle.std.specs.List.{slice_index_or}
use Rattle.fs_model.specs.declared.test.Test.{Test}
use Rattle.fs_model.specs.declared.step.Step.{Step}
use Rattle.fs_hart.specs.declared.trace.Trace.{Trace}
use Rattle.fs_hart.specs.Listing.{AreTraces}
use Rattle.fs_hart.specs.Runs.{registers_after}
use Rattle.fs_hart.specs.Steps.{steps_in}

-- the lists are the runs of the first harts over the sets
abbrev pub AreListed : Test → List (List ℕ) → List (List Trace) → Type 0
AreListed t sets lists = (hart : ℕ) → hart < length lists → AreTraces t hart sets (slice_index_or lists hart [])

-- each run of a list has the registers that its steps end with
abbrev pub HaveFinal : Test → List (List Trace) → Type 0
HaveFinal t lists = (hart : ℕ) → hart < length lists → All (λ trace. trace.registers ≡ registers_after t hart trace.steps) (slice_index_or lists hart [])

-- the steps of the runs that the hart has in the lists
abbrev pub runs_in : List (List Trace) → ℕ → List (List Step)
runs_in lists hart = steps_in (slice_index_or lists hart [])
