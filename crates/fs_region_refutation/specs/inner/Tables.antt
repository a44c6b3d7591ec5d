-- A run made ready: a candidate in which the other harts do nothing, and tables by the positions of its hart's code.
use Rattle.std.specs.Prelude.{◌≡◌, ℕ, ◌<◌, ◌==◌, Bool, false, ◌&&◌, if◌then◌else◌, Option, None, Some, option_map, unwrap_or, List, [], length, slice_get}
use Rattle.std.specs.List.{slice_index_or}
use Rattle.fs_kinds.specs.declared.reason.OperationName.{OperationName as Name}
use Rattle.fs_model.specs.declared.operation.Operation.{Operation}
use Rattle.fs_model.specs.declared.test.Test.{Test}
use Rattle.fs_model.specs.declared.step.Step.{Step}
use Rattle.fs_model.specs.Execution.{initial_words}
use Rattle.fs_model.specs.Numbers.{is_same}
use Rattle.fs_model.specs.Operations.{steps_of}
use Rattle.fs_hart.specs.Steps.{steps_in}
use Rattle.fs_hart.specs.Runs.{registers_after}
use Rattle.fs_cand.specs.declared.candidate.Candidate.{Candidate}
use Rattle.fs_cand.specs.Candidates.{IsMade}
use Rattle.fs_verdict_laws.specs.Local.{place_of}
use Rattle.fs_cert_evidence.specs.Musts.{traces_of, alone, number_of}

-- ---- tables

-- what stands in a table at a position; past its end there is nothing
abbrev pub listed_at : List (Option ℕ) → ℕ → Option ℕ
listed_at table at = slice_index_or table at None

abbrev pub name_at : ℕ → ℕ → Name
name_at hart at = record { hart = hart; at = at }

-- it is the operation of the hart, whose steps these are, that executes the instruction there
abbrev pub is_at : ℕ → List Step → ℕ → Operation → Bool
is_at hart steps at o =
    is_same o.hart (Some hart) && unwrap_or (option_map (λ s. s.at == at) (slice_get steps o.place)) false

-- the position of the instruction that an operation of the hart executes
abbrev pub position_in : ℕ → List Step → Operation → Option ℕ
position_in hart steps o = if is_same o.hart (Some hart) then option_map (λ s. s.at) (slice_get steps o.place) else None

-- at each position the place of the step that executes its instruction, and the number of the operation that this is
pub record AreTables (t : Test) (hart : ℕ) (run : List Step) (places numbers : List (Option ℕ)) : Type 0 where
  pub placed : (at : ℕ) → listed_at places at ≡ place_of run at
  pub numbered : (at : ℕ) → listed_at numbers at ≡ number_of (alone t hart run) (name_at hart at)

-- ---- candidates

-- the candidate has the run for the hart, with the registers at its end, empty runs for the others, and no sources
pub record IsAlone (t : Test) (hart : ℕ) (run : List Step) (c : Candidate) : Type 0 where
  pub low : hart < length t.codes
  pub made : IsMade (initial_words t) c
  pub traces : steps_in c.traces ≡ traces_of t hart run
  pub registers : option_map (λ trace. trace.registers) (slice_get c.traces hart) ≡ Some (registers_after t hart run)
  pub source : c.source ≡ []

-- the run of the hart in the candidate is ready
pub record IsReady (t : Test) (hart : ℕ) (c : Candidate) (places numbers : List (Option ℕ)) : Type 0 where
  pub alone : IsAlone t hart (steps_of (steps_in c.traces) hart) c
  pub tables : AreTables t hart (steps_of (steps_in c.traces) hart) places numbers
