-- What runs of a hart do at each position of its code, side by side.
use Rattle.std.specs.Prelude.{◌≡◌, ℕ, Option, Some, option_and_then, if◌then◌else◌, List, [], map, slice_get}
use Rattle.fs_instr.specs.declared.instr.Instr.{Instr}
use Rattle.fs_model.specs.declared.step.Step.{Step}
use Rattle.fs_model.specs.Slots.{is_memory_at}
use Rattle.fs_hart.specs.declared.trace.Trace.{Trace}
use Rattle.fs_cert_evidence.specs.Regions.{step_at}
use Rattle.fs_region_refutation.specs.declared.doings.Doing.{Doing}
use Rattle.fs_region_refutation.specs.declared.doings.Doings.{Doings}

-- what is done by a step, or where there is none
abbrev pub doing_from : Option Step → Doing
doing_from step = record {
  address = option_and_then (λ s. s.address) step;
  loaded = option_and_then (λ s. s.loaded) step;
  stored = option_and_then (λ s. s.stored) step;
}

-- what the run does at the position
abbrev pub doing_of : List Step → ℕ → Doing
doing_of run at = doing_from (step_at run at)

-- what each run does there, where the instruction accesses memory
abbrev pub column_of : List Instr → List Trace → ℕ → List Doing
column_of code traces at = if is_memory_at code at then map (λ trace. doing_of trace.steps at) traces else []

-- what is listed of the run of this number at the position
abbrev pub doing_in : Doings → (at number : ℕ) → Option Doing
doing_in doings at number = option_and_then (λ column. slice_get column number) (slice_get doings.columns.items at)

-- what is listed of the run of this number is what this run does
abbrev pub IsBeside : Doings → ℕ → List Step → Type 0
IsBeside doings number run = (at : ℕ) (doing : Doing) → doing_in doings at number ≡ Some doing → doing ≡ doing_of run at

-- what is listed of each run is what it does
abbrev pub AreDoings : List Trace → Doings → Type 0
AreDoings traces doings =
    (number : ℕ) (trace : Trace) → slice_get traces number ≡ Some trace → IsBeside doings number trace.steps
