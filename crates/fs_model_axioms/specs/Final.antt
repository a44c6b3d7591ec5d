-- The final registers of runs.
use Rattle.std.specs.Prelude.{◌≡◌, ℕ, ◌<◌, List, [], map, length}
use Rattle.std.specs.List.{slice_index_or}
use Rattle.fs_model.specs.declared.test.Test.{Test}
use Rattle.fs_model.specs.Execute.{read}
use Rattle.fs_model.specs.Trace.{start_with, hart_after}
use Rattle.fs_model.specs.Operations.{steps_of}
use Rattle.fs_model.specs.Execution.{registers_of}
use Rattle.fs_hart.specs.declared.trace.Trace.{Trace}
use Rattle.fs_hart.specs.Steps.{steps_in}

-- the word of a hart's register, as its run has it
abbrev pub register_in : List Trace → (hart reg : ℕ) → ℕ
register_in traces hart reg = read (slice_index_or (map (λ trace. trace.registers) traces) hart []) reg

-- each hart has a run, and the registers of each are those that its steps end with
pub record AreFinal (t : Test) (traces : List Trace) : Type 0 where
  pub harts : length traces ≡ length t.starts
  pub registers : (hart : ℕ) → hart < length traces
      → slice_index_or (map (λ trace. trace.registers) traces) hart []
      ≡ (hart_after (start_with (registers_of t hart)) (steps_of (steps_in traces) hart)).registers
