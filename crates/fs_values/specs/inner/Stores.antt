-- The stores of runs, each with its address and word.
use Rattle.std.specs.Prelude.{◌↔◌, ℕ, ◌<◌, Option, None, Some, List}
use Rattle.std.specs.List.{Contains, flat_map}
use Rattle.std.specs.Option.{option_to_list}
use Rattle.fs_model.specs.declared.test.Test.{Test}
use Rattle.fs_model.specs.Test.{address_of}
use Rattle.fs_model.specs.declared.step.Step.{Step}
use Rattle.fs_model.specs.Execution.{IsTrace}
use Rattle.fs_model.specs.Values.{LoadsFrom, StoresWord}
use Rattle.fs_hart.specs.declared.trace.Trace.{Trace}
use Rattle.fs_values.specs.declared.stores.Store.{Store}

-- what a step of this address and word stores
abbrev pub store_with : Option ℕ → Option ℕ → Option Store
store_with (Some address) (Some word) = Some (record { address = address; word = word })
store_with (Some address) None = None
store_with None word = None

abbrev pub store_of : Step → Option Store
store_of s = store_with s.address s.stored

-- the stores of a run, and those of runs
abbrev pub stores_of : List Step → List Store
stores_of steps = flat_map (λ s. option_to_list (store_of s)) steps

abbrev pub stores_in : List Trace → List Store
stores_in traces = flat_map (λ trace. stores_of trace.steps) traces

-- one of the stores is of this word at location k
abbrev pub HasStore : List Store → ℕ → ℕ → Type 0
HasStore stores k word = Contains stores (record { address = address_of k; word = word })

-- a run of one of the first n harts whose loads take words of V stores the word at location k
abbrev pub IsStoredBelow : Test → (V : ℕ → ℕ → Type 0) → (n : ℕ) → ℕ → ℕ → Type 0
IsStoredBelow t V n k word =
    (hart : ℕ) × (steps : List Step) × (hart < n) × IsTrace t hart steps × LoadsFrom V steps × StoresWord steps k word

-- the stores are those of the first n harts' runs
abbrev pub AreStoresBelow : Test → (V : ℕ → ℕ → Type 0) → (n : ℕ) → List Store → Type 0
AreStoresBelow t V n stores = (k word : ℕ) → HasStore stores k word ↔ IsStoredBelow t V n k word
