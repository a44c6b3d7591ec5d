-- The runs of a test, made ready to be asked.
use Rattle.std.specs.Prelude.{◌≡◌, ℕ, List, [], map, All}
use Rattle.std.specs.List.{slice_index_or}
use Rattle.fs_kinds.specs.declared.reason.OperationName.{OperationName as Name}
use Rattle.fs_model.specs.declared.test.Test.{Test}
use Rattle.fs_model.specs.declared.step.Step.{Step}
use Rattle.fs_model.specs.OfTests.{program_of}
use Rattle.fs_model.specs.Test.{IsBounded}
use Rattle.fs_hart.specs.declared.trace.Trace.{Trace}
use Rattle.fs_cert_evidence.specs.Regions.{Region, names}
use Rattle.fs_cert_evidence.specs.Trees.{AreItsRuns, root, roots}
use Rattle.fs_region_refutation.specs.Alone.{RunOf, IsRun}

-- ---- lists for each hart

-- the steps of each hart's runs
abbrev pub runs_over : List (List RunOf) → ℕ → List (List Step)
runs_over lists hart = map (λ run. run.steps) (slice_index_or lists hart [])

-- runs of the hart of the test
abbrev pub AreOfHart : Test → ℕ → List RunOf → Type 0
AreOfHart t hart = All (λ run. (run.test ≡ t) × (run.hart ≡ hart))

-- each is a run of the test, and of the hart in whose list it stands
abbrev pub AreOfEach : Test → List (List RunOf) → Type 0
AreOfEach t lists = (hart : ℕ) → AreOfHart t hart (slice_index_or lists hart [])

-- ---- made ready

abbrev pub lone_of : Test → ℕ → Trace → RunOf
lone_of t hart trace = record { test = t; hart = hart; steps = trace.steps }

-- whole runs of each hart
abbrev pub AreRunsOfEach : Test → List (List Trace) → Type 0
AreRunsOfEach t lists = (hart : ℕ) → All (IsRun t hart) (slice_index_or lists hart [])

-- the runs of each hart, made ready
abbrev pub AreReady : Test → List (List Trace) → List (List RunOf) → Type 0
AreReady t lists runs = (hart : ℕ) → slice_index_or runs hart [] ≡ map (lone_of t hart) (slice_index_or lists hart [])

-- ---- of another test with the same program

abbrev pub HasProgramOf : Test → RunOf → Type 0
HasProgramOf t run = program_of run.test ≡ program_of t

abbrev pub asked_of : Test → RunOf → RunOf
asked_of t run = record { test = t; hart = run.hart; steps = run.steps }

abbrev pub all_asked : Test → List (List RunOf) → List (List RunOf)
all_asked t = map (map (asked_of t))

-- ---- what refutations of a test are over

pub record IsBasis (t : Test) (runs : List (List RunOf)) (named : List Name) : Type 0 where
  pub bounded : IsBounded t
  pub all : AreItsRuns t (runs_over runs)
  pub of : AreOfEach t runs
  pub names : named ≡ names t

-- the region of all candidates with the outcome
abbrev pub IsRoot : Test → Region → Type 0
IsRoot t region = (runs : ℕ → List (List Step)) × AreItsRuns t runs × (region ≡ root t runs)

-- the regions that are open at first
abbrev pub AreRoots : Test → List Region → Type 0
AreRoots t regions = (runs : ℕ → List (List Step)) × AreItsRuns t runs × (regions ≡ roots t runs)
