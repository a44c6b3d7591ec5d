-- Candidate executions: runs, a source for each load, and a coherence order of each location's stores. They have no
-- global memory order.
use Rattle.std.specs.Prelude.{◌≡◌, ℕ, ◌+◌, ◌<◌, ◌==◌, Bool, true, false, ◌&&◌, not, Option, None, Some, option_and_then, unwrap_or, List, [], filter, length, slice_get}
use Rattle.std.specs.List.{list_any, list_all, last_or, slice_index_or}
use Rattle.fs_model.specs.declared.test.Test.{Test}
use Rattle.fs_model.specs.Condition.{condition_of}
use Rattle.fs_model.specs.declared.step.Step.{Step}
use Rattle.fs_model.specs.Numbers.{has_number, is_same, numbers_below, stands_before}
use Rattle.fs_model.specs.Operations.{PreExecution, accesses, operations, operation, is_load, is_store, same_word, same_hart, po, paired}
use Rattle.fs_model.specs.Execution.{pre_execution}
use Rattle.fs_model.specs.Values.{AreRunsOverValues}
use Rattle.fs_model.specs.Shows.{is_store_to, holds, is_outcome, final_register}

-- For each operation the one that wrote what it loads, where it loads, and for each location its stores, the initial
-- one first. Both go by the operations' numbers.
pub record Candidate : Type 0 where
  pub traces : List (List Step)
  pub source : List (Option ℕ)
  pub store_order : List (List ℕ)

-- the runs of the candidate and the words before them
abbrev pub runs_of : Test → Candidate → PreExecution
runs_of t c = pre_execution t c.traces

-- reads-from, from a load to its source: the operation that wrote what a loads. The field draws it the other way.
abbrev pub rf : Candidate → ℕ → Option ℕ
rf c a = slice_index_or c.source a None

-- the stores to a location in coherence order
abbrev pub stores_to : Candidate → ℕ → List ℕ
stores_to c location = slice_index_or c.store_order location []

-- coherence: a stands before b in the coherence order of their location. Of raw candidates both are stores to one
-- location.
abbrev pub co : Candidate → ℕ → ℕ → Bool
co c a b = list_any (λ stores. stands_before stores a b) c.store_order

-- ---- candidates of a test

-- s is another operation, which stores the loaded word at the load's location
abbrev pub is_source : PreExecution → ℕ → ℕ → Bool
is_source x a s = is_store x s && same_word x s a && not (s == a) && is_same (operation x s).stored (operation x a).loaded

-- each load has a source, and what is no load has none
abbrev pub is_sourced : PreExecution → ℕ → Option ℕ → Bool
is_sourced x a None = not (is_load x a)
is_sourced x a (Some s) = is_load x a && is_source x a s

-- the stores to the location, by their numbers
abbrev pub stores_in : PreExecution → ℕ → List ℕ
stores_in x location = filter (is_store_to x location) (numbers_below (length (operations x)))

-- each store to the location once, the initial one first
abbrev pub is_store_order : PreExecution → ℕ → List ℕ → Bool
is_store_order x location order =
    is_same (slice_get order 0) (Some (length (accesses x) + location)) && (length order == length (stores_in x location))
    && list_all (has_number order) (stores_in x location)

pub record IsRaw (t : Test) (c : Candidate) : Type 0 where
  pub runs : AreRunsOverValues t c.traces
  pub sources_for_each : length c.source ≡ length (operations (runs_of t c))
  pub sources : (a : ℕ) → a < length c.source → is_sourced (runs_of t c) a (rf c a) ≡ true
  pub locations : length c.store_order ≡ length t.locations
  pub orders :
      (location : ℕ) → location < length t.locations → is_store_order (runs_of t c) location (stores_to c location) ≡ true

-- ---- those that show the outcome

-- the word of the last store in coherence order
abbrev pub last_word : Test → Candidate → ℕ → ℕ
last_word t c location =
    unwrap_or (option_and_then (λ a. (operation (runs_of t c) a).stored) (last_or None (stores_to c location))) 0

-- no store of another hart stands between s and w in coherence order
abbrev pub HasNoForeignBetween : PreExecution → Candidate → ℕ → ℕ → Type 0
HasNoForeignBetween x c s w = (m : ℕ) → same_hart x m w ≡ false → co c s m ≡ true → co c m w ≡ true → ⊥

pub record IsShowing (t : Test) (c : Candidate) : Type 0 where
  pub raw : IsRaw t c
  pub outcome : is_outcome t.quantifier (holds (final_register t c.traces) (last_word t c) (condition_of t.condition)) ≡ true
  -- a source of the load's own hart precedes the load in program order
  pub own : (a s : ℕ) → rf c a ≡ Some s → same_hart (runs_of t c) s a ≡ true → po (runs_of t c) s a ≡ true
  -- a store to the load's word that precedes it in program order is no later than its source
  pub latest :
      (a s m : ℕ) → rf c a ≡ Some s → is_store (runs_of t c) m ≡ true → same_word (runs_of t c) m a ≡ true
      → po (runs_of t c) m a ≡ true → co c s m ≡ false
  -- of a pair, the source of the lr.w precedes the store of the sc.w, with no store of another hart between
  pub atomic :
      (r w s : ℕ) → po (runs_of t c) r w ≡ true → paired (runs_of t c) r w ≡ true → rf c r ≡ Some s
      → (co c s w ≡ true) × HasNoForeignBetween (runs_of t c) c s w
