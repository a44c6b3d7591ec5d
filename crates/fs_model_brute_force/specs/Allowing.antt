-- Does a test allow its outcome, where loads take words of given sets? And what is listed in order to decide it.
use Rattle.std.specs.Prelude.{◌≡◌, ℕ, ◌<◌, ◌⊎◌, true, List, [], ◌++◌, length}
use Rattle.std.specs.List.{AllZip, Contains, slice_index_or}
use Rattle.fs_kinds.specs.declared.fault.Fault.{Fault}
use Rattle.fs_kinds.specs.declared.fault.Fault.TheVariants.{Memory}
use Rattle.fs_kinds.specs.declared.placement.Entry.{Entry}
use Rattle.fs_model.specs.declared.test.Test.{Test}
use Rattle.fs_model.specs.Operations.{steps_of}
use Rattle.fs_model.specs.Execution.{Execution, IsExecution, IsTrace}
use Rattle.fs_model.specs.Shows.{has_outcome}
use Rattle.fs_model.specs.Values.{LoadsFrom}
use Rattle.fs_hart.specs.declared.trace.Trace.{Trace}
use Rattle.fs_hart.specs.Listing.{AreTraces, IsOffered, IsTraceFault}
use Rattle.fs_model_axioms.specs.Final.{AreFinal}
use Rattle.fs_hart.specs.Steps.{steps_in}
use Rattle.fs_model_brute_force.specs.Decisions.{ShowsOutcome}

-- each word that is loaded is one of its location's set
abbrev pub LoadsOver : Test → List (List ℕ) → Execution → Type 0
LoadsOver t sets e = (hart : ℕ) → hart < length t.codes → LoadsFrom (IsOffered sets) (steps_of e.traces hart)

-- an execution with these fences shows the outcome, and its loads take words of the sets
abbrev pub AllowsOver : Test → List Entry → List (List ℕ) → Type 0
AllowsOver t p sets = (e : Execution) × IsExecution t p e × LoadsOver t sets e × (has_outcome t e ≡ true)

-- ---- runs and orders

abbrev pub execution_of : List Trace → List ℕ → Execution
execution_of traces order = record { traces = steps_in traces; order = order }

-- some order that begins so shows it
abbrev pub ShowsFrom : Test → List Entry → List Trace → List ℕ → Type 0
ShowsFrom t p traces order = (rest : List ℕ) × ShowsOutcome t p (execution_of traces (order ++ rest))

-- a whole run of each hart, with its registers at the end
pub record AreWhole (t : Test) (traces : List Trace) : Type 0 where
  pub runs : (hart : ℕ) → hart < length t.codes → IsTrace t hart (steps_of (steps_in traces) hart)
  pub last : AreFinal t traces

-- a run out of each list
abbrev pub AreChosen : List (List Trace) → List Trace → Type 0
AreChosen lists traces = AllZip Contains lists traces

-- these runs, with one out of each list behind them, show the outcome in some order
abbrev pub ShowsAmong : Test → List Entry → List (List Trace) → List Trace → Type 0
ShowsAmong t p lists traces = (chosen : List Trace) × AreChosen lists chosen × ShowsFrom t p (traces ++ chosen) []

-- ---- the runs of all harts

-- the lists are those of the first harts
abbrev pub AreListed : Test → List (List ℕ) → List (List Trace) → Type 0
AreListed t sets lists = (hart : ℕ) → hart < length lists → AreTraces t hart sets (slice_index_or lists hart [])

-- all harts have runs to list
abbrev pub HaveRuns : Test → List (List ℕ) → Type 0
HaveRuns t sets = (lists : List (List Trace)) × (length lists ≡ length t.codes) × AreListed t sets lists

-- the first hart whose runs can't be listed, and why
pub record IsFirstFault (t : Test) (sets : List (List ℕ)) (fault : Fault) : Type 0 where
  pub lists : List (List Trace)
  pub before : AreListed t sets lists
  pub hart : length lists < length t.codes
  pub here : IsTraceFault t (length lists) sets fault

-- why there is no answer
abbrev pub IsListingFault : Test → List (List ℕ) → Fault → Type 0
IsListingFault t sets fault = (fault ≡ Memory) ⊎ IsFirstFault t sets fault
