-- Which words a location can come to hold, counted in rounds: a run whose loads take words of one round adds what it
-- stores to the next. They bound which runs are listed. That each execution keeps to them, where no run over them goes
-- astray, is a law of the memory model, and no part of what an execution is.
use Rattle.std.specs.Prelude.{◌≡◌, ◌↔◌, ℕ, zero, suc, ◌<◌, ◌⊎◌, Some, List, [], ◌∷◌, All, length, slice_get, sum_by, count_by}
use Rattle.std.specs.List.{AllPairs, Contains}
use Rattle.fs_model.specs.declared.test.Test.{Test}
use Rattle.fs_model.specs.Test.{address_of}
use Rattle.fs_model.specs.declared.step.Step.{Step}
use Rattle.fs_model.specs.Choices.{choices_of, ComesBefore}
use Rattle.fs_model.specs.Forms.{is_storing}
use Rattle.fs_model.specs.Operations.{steps_of}
use Rattle.fs_model.specs.Execution.{Execution, IsTrace, initial_words}

-- what the step loads is a word of its location
abbrev pub LoadsOne : (ℕ → ℕ → Type 0) → Step → Type 0
LoadsOne V s = (k word : ℕ) → s.address ≡ Some (address_of k) → s.loaded ≡ Some word → V k word

abbrev pub LoadsFrom : (ℕ → ℕ → Type 0) → List Step → Type 0
LoadsFrom V steps = All (LoadsOne V) steps

-- some step stores the word at location k
abbrev pub StoresWord : List Step → ℕ → ℕ → Type 0
StoresWord [] k word = ⊥
StoresWord (s ∷ ss) k word = ((s.address ≡ Some (address_of k)) × (s.stored ≡ Some word)) ⊎ StoresWord ss k word

-- location k can hold the word after n rounds
abbrev pub IsValueAfter : Test → ℕ → ℕ → ℕ → Type 0
IsValueAfter t zero k word = slice_get (initial_words t) k ≡ Some word
IsValueAfter t (suc n) k word =
    IsValueAfter t n k word
    ⊎ ((hart : ℕ) × (steps : List Step) × (hart < length t.codes) × IsTrace t hart steps
    × LoadsFrom (IsValueAfter t n) steps × StoresWord steps k word)

-- as many rounds as the test has sw, sc.w and AMO instructions
abbrev pub rounds : Test → ℕ
rounds t = sum_by (count_by is_storing) t.codes

abbrev pub IsValue : Test → ℕ → ℕ → Type 0
IsValue t k word = IsValueAfter t (rounds t) k word

-- each word that is loaded is a value of its location
abbrev pub IsGrounded : Test → Execution → Type 0
IsGrounded t e = (hart : ℕ) → hart < length t.codes → LoadsFrom (IsValue t) (steps_of e.traces hart)

-- a run of each hart, whose loads take words from the value sets
pub record AreRunsOverValues (t : Test) (traces : List (List Step)) : Type 0 where
  pub harts : length traces ≡ length t.codes
  pub runs : (hart : ℕ) → hart < length t.codes → IsTrace t hart (steps_of traces hart)
  pub values : (hart : ℕ) → hart < length t.codes → LoadsFrom (IsValue t) (steps_of traces hart)

-- all runs of the hart over the value sets, each once, in choice order
pub record AreAllRuns (t : Test) (hart : ℕ) (runs : List (List Step)) : Type 0 where
  pub rising : AllPairs (λ a b. ComesBefore (choices_of a) (choices_of b)) runs
  pub exact : (steps : List Step) → Contains runs steps ↔ IsTrace t hart steps × LoadsFrom (IsValue t) steps

-- of each hart all runs
abbrev pub HasAllRuns : Test → (ℕ → List (List Step)) → Type 0
HasAllRuns t runs = (hart : ℕ) → hart < length t.codes → AreAllRuns t hart (runs hart)
