-- The rounds in which values are found, and the faults that are met in them. V says which words a load may take at each
-- location.
use Rattle.std.specs.Prelude.{◌↔◌, ◌⊎◌, ℕ, suc, ◌<◌, List, length}
use Rattle.fs_kinds.specs.declared.fault.Fault.{Fault}
use Rattle.fs_model.specs.declared.test.Test.{Test}
use Rattle.fs_model.specs.declared.step.Step.{Step}
use Rattle.fs_model.specs.Execution.{IsTrace}
use Rattle.fs_model.specs.Values.{IsValueAfter, LoadsFrom, StoresWord}
use Rattle.fs_model.specs.TooMany.{IsHartFault}

-- the same words at each location
abbrev pub AreSameSets : (V W : ℕ → ℕ → Type 0) → Type 0
AreSameSets V W = (k word : ℕ) → V k word ↔ W k word

-- a run whose loads take words of V stores the word at location k
abbrev pub IsStored : Test → (V : ℕ → ℕ → Type 0) → ℕ → ℕ → Type 0
IsStored t V k word =
    (hart : ℕ) × (steps : List Step) × (hart < length t.codes) × IsTrace t hart steps × LoadsFrom V steps × StoresWord steps k word

-- the words of V, and those that are stored: what a round makes of V
abbrev pub IsInNext : Test → (V : ℕ → ℕ → Type 0) → ℕ → ℕ → Type 0
IsInNext t V k word = V k word ⊎ IsStored t V k word

-- the round after n rounds adds no word
abbrev pub AddsNothing : Test → ℕ → Type 0
AddsNothing t n = (k word : ℕ) → IsValueAfter t (suc n) k word → IsValueAfter t n k word

-- ---- faults

-- no hart has a fault
abbrev pub HasNoFault : Test → (V : ℕ → ℕ → Type 0) → Type 0
HasNoFault t V = (hart : ℕ) (f : Fault) → hart < length t.codes → IsHartFault t V hart f → ⊥

-- the fault of the first hart that has one
pub record IsFirstHartFault (t : Test) (V : ℕ → ℕ → Type 0) (f : Fault) : Type 0 where
  pub hart : ℕ
  pub hart_of_test : hart < length t.codes
  pub met : IsHartFault t V hart f
  pub first : (h : ℕ) (g : Fault) → h < hart → IsHartFault t V h g → ⊥
