-- Nothing out of thin air: what a store rests on, and that each loaded word is a value of its location.
use Rattle.std.specs.Prelude.{◌≡◌, ℕ, ◌<◌, ◌≤◌, ◌==◌, ◌^◌, All, Bool, true, ◌||◌, ◌&&◌, Some, List, length, slice_get}
use Rattle.std.specs.List.{list_any}
use Rattle.fs_kinds.specs.declared.fault.Fault.{Fault}
use Rattle.fs_kinds.specs.declared.placement.Entry.{Entry}
use Rattle.fs_model.specs.declared.test.Test.{Test}
use Rattle.fs_model.specs.Test.{address_of, IsBounded}
use Rattle.fs_model.specs.declared.step.Step.{Step}
use Rattle.fs_model.specs.declared.step.Choice.{Choice}
use Rattle.fs_model.specs.Numbers.{between}
use Rattle.fs_model.specs.Dependencies.{address_depends, data_depends, control_depends}
use Rattle.fs_model.specs.Operations.{PreExecution, is_load, is_store, place, po, trace_of}
use Rattle.fs_model.specs.Source.{source_in}
use Rattle.fs_model.specs.Execution.{Execution, IsExecution, IsTrace, pre_execution}
use Rattle.fs_model.specs.Values.{IsValueAfter, IsGrounded, AreRunsOverValues, LoadsFrom, LoadsOne, StoresWord, rounds}
use Rattle.fs_model.specs.TooMany.{EndsAstray, IsRunFault}

-- ---- what a store rests on

-- Step j rests on step i: it is step j itself, or before it, and step j's address, word or path, or the address of a
-- step between them, depends on it.
abbrev pub rests_on : List Step → ℕ → ℕ → Bool
rests_on steps j i =
    (i == j) || (address_depends steps i j || (data_depends steps i j || (control_depends steps i j
    || list_any (address_depends steps i) (between i j))))

-- operation s rests on the word that operation a loads: its own, where s is an AMO, or that of an earlier one
abbrev pub rests : PreExecution → ℕ → ℕ → Bool
rests x s a = is_load x a && ((a == s) || (po x a s && rests_on (trace_of x s) (place x s) (place x a)))

-- ---- runs

-- the words that the locations begin with are words of 32 bits
abbrev pub BeginsWithWords : Test → Type 0
BeginsWithWords t = All (λ x. x.word < 2 ^ 32) t.locations

-- no run of the hart whose loads take words of V goes astray
abbrev pub NoneAstray : Test → (ℕ → ℕ → Type 0) → ℕ → Type 0
NoneAstray t V hart = (choices : List Choice) (at : ℕ) → EndsAstray t V hart choices at → ⊥

-- Where a run stores a word and the loads on which the store rests take words of V, a run all of whose loads do so
-- stores it too.
abbrev pub KeepsStores : Test → (ℕ → ℕ → Type 0) → Type 0
KeepsStores t V =
    ((k word : ℕ) → IsValueAfter t 0 k word → V k word)
    → (hart : ℕ) → hart < length t.codes → NoneAstray t V hart
    → (steps : List Step) → IsTrace t hart steps
    → (j : ℕ) (s : Step) → slice_get steps j ≡ Some s
    → ((i : ℕ) (u : Step) → rests_on steps j i ≡ true → slice_get steps i ≡ Some u → LoadsOne V u)
    → (k word : ℕ) → s.address ≡ Some (address_of k) → s.stored ≡ Some word
    → (us : List Step) × IsTrace t hart us × LoadsFrom V us × StoresWord us k word

-- no run over the value sets goes astray
abbrev pub NeverAstray : Test → Type 0
NeverAstray t = (n hart : ℕ) → n ≤ rounds t → hart < length t.codes → NoneAstray t (IsValueAfter t n) hart

-- the listing of runs meets no fault
abbrev pub MeetsNoFault : Test → Type 0
MeetsNoFault t = (f : Fault) → IsRunFault t f → ⊥

-- a test within the limits whose runs can be listed
pub record CanBeListed (t : Test) : Type 0 where
  pub bounded : IsBounded t
  pub words : BeginsWithWords t
  pub no_fault : MeetsNoFault t

-- ---- executions

-- What holds of each store if it holds of the sources of all the loads on which it rests, holds of all stores of the
-- execution: so nothing rests on itself in the end.
abbrev pub HoldsOfStores : Test → Execution → (ℕ → Type 0) → Type 0
HoldsOfStores t e P =
    ((s : ℕ) → is_store (pre_execution t e.traces) s ≡ true
    → ((a r : ℕ) → rests (pre_execution t e.traces) s a ≡ true → source_in (pre_execution t e.traces) e.order a ≡ Some r → P r) → P s)
    → (s : ℕ) → is_store (pre_execution t e.traces) s ≡ true → P s

abbrev pub RestsOnNoCycle : Test → Type 0
RestsOnNoCycle t = (p : List Entry) (e : Execution) → IsExecution t p e → (test : ℕ → Bool) → HoldsOfStores t e (λ s. test s ≡ true)

-- every execution is grounded, whatever fences are placed
abbrev pub IsAlwaysGrounded : Test → Type 0
IsAlwaysGrounded t = (p : List Entry) (e : Execution) → IsExecution t p e → IsGrounded t e

-- the runs of every execution are runs over the value sets, as those of candidates are
abbrev pub HasRunsOverValues : Test → Type 0
HasRunsOverValues t = (p : List Entry) (e : Execution) → IsExecution t p e → AreRunsOverValues t e.traces
