-- Outcomes that no choice of runs and last words makes true: the memory model isn't needed to rule them out. Which
-- stores loads return from, in which order operations come to memory, and which fences there are plays no part.
use Rattle.std.specs.Prelude.{◌≡◌, ◌⊎◌, ℕ, zero, suc, ◌*◌, ◌<◌, true, Some, List, length, slice_get}
use Rattle.fs_model.specs.declared.test.Test.{Test}
use Rattle.fs_model.specs.declared.step.Step.{Step}
use Rattle.fs_model.specs.Condition.{condition_of}
use Rattle.fs_model.specs.Operations.{steps_of}
use Rattle.fs_model.specs.Execution.{initial_words}
use Rattle.fs_model.specs.Shows.{final_register, holds, is_outcome}
use Rattle.fs_model.specs.Values.{AreRunsOverValues, StoresWord}
use Rattle.fs_cert_evidence.specs.Trees.{AreItsRuns}

-- The location may end with the word, as far as these runs tell: one of them stores it there; or it begins with it, and
-- none stores there.
abbrev pub MayEnd : Test → List (List Step) → (location word : ℕ) → Type 0
MayEnd t traces location word =
    ((hart : ℕ) × StoresWord (steps_of traces hart) location word)
    ⊎ ((slice_get (initial_words t) location ≡ Some word)
    × ((hart other : ℕ) → StoresWord (steps_of traces hart) location other → ⊥))

-- A way to the outcome: a run of each hart, whose loads take words from the value sets, and a last word for each
-- location that these runs allow, which together make the condition as the outcome asks for.
pub record IsWay (t : Test) (traces : List (List Step)) (last : ℕ → ℕ) : Type 0 where
  pub runs : AreRunsOverValues t traces
  pub ends : (location : ℕ) → location < length t.locations → MayEnd t traces location (last location)
  pub outcome : is_outcome t.quantifier (holds (final_register t traces) last (condition_of t.condition)) ≡ true

-- there is no way to it
abbrev pub IsVacuous : Test → Type 0
IsVacuous t = (traces : List (List Step)) (last : ℕ → ℕ) → IsWay t traces last → ⊥

-- ---- where it may be left open

-- more lists of runs, one of each hart, than are looked through whatever it takes
abbrev pub most_lists : ℕ
most_lists = 10000

-- in how many ways a run of each of the first harts can be taken
abbrev pub lists_of : (ℕ → List (List Step)) → ℕ → ℕ
lists_of runs zero = 1
lists_of runs (suc n) = lists_of runs n * length (runs n)

pub record HasManyRuns (t : Test) : Type 0 where
  pub runs : ℕ → List (List Step)
  pub all : AreItsRuns t runs
  pub many : most_lists < lists_of runs (length t.codes)
