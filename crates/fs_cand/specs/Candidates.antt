-- What a candidate execution is made of.
use Rattle.std.specs.Prelude.{◌≡◌, ℕ, ◌<◌, ◌≤◌, Option, List, [], All, length}
use Rattle.std.specs.List.{slice_index_or}
use Rattle.fs_model.specs.Operations.{PreExecution, steps_of, operations}
use Rattle.fs_hart.specs.declared.trace.Trace.{Trace}
use Rattle.fs_hart.specs.Steps.{steps_in}
use Rattle.fs_deps.specs.declared.deps.Masks.{Masks}
use Rattle.fs_deps.specs.Masks.{IsDepsOf}
use Rattle.fs_cert_evidence.specs.Candidates as defined
use Rattle.fs_cand.specs.declared.candidate.Candidate.{Candidate}

-- the candidate of the definitions: its steps, sources and coherence orders
abbrev pub candidate_of : Candidate → defined.Candidate
candidate_of c = record { traces = steps_in c.traces; source = c.source; store_order = c.store_order }

-- the candidate's runs, in a test whose locations begin with these words
abbrev pub runs_of : Candidate → (words : List ℕ) → PreExecution
runs_of c words = record { traces = (candidate_of c).traces; words = words }

-- the operation that wrote what operation a loads
abbrev pub rf : Candidate → ℕ → Option ℕ
rf c a = defined.rf (candidate_of c) a

-- its operations and dependencies are those of its runs, in a test whose locations begin with these words
pub record IsMade (words : List ℕ) (c : Candidate) : Type 0 where
  pub operations : c.operations ≡ operations (runs_of c words)
  pub harts : length c.deps ≡ length c.traces
  pub deps : (hart : ℕ) → hart < length c.traces → IsDepsOf (steps_of (steps_in c.traces) hart) (slice_index_or c.deps hart [])

-- each run has at most 32 steps
abbrev pub AreShort : List Trace → Type 0
AreShort traces = All (λ trace. length trace.steps ≤ 32) traces

-- for each run its dependencies
pub record AreDepsOf (traces : List Trace) (deps : List (List Masks)) : Type 0 where
  pub harts : length deps ≡ length traces
  pub each : (hart : ℕ) → hart < length traces → IsDepsOf (steps_of (steps_in traces) hart) (slice_index_or deps hart [])
