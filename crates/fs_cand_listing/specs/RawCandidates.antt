-- The raw candidates of a test, each once and in their order, from all runs of each hart.
use Rattle.std.specs.Prelude.{◌≡◌, ℕ, ◌+◌, ◌<◌, ◌↔◌, ◌⊎◌, Option, None, Some, List, [], ◌∷◌, ◌++◌, map, filter, length, AllPairs, if◌then◌else◌}
use Rattle.std.specs.List.{Contains, flat_map, range_with_len, slice_index_or}
use Rattle.fs_model.specs.declared.test.Test.{Test}
use Rattle.fs_model.specs.declared.step.Step.{Step}
use Rattle.fs_model.specs.Numbers.{numbers_below}
use Rattle.fs_model.specs.Operations.{PreExecution, accesses, operations, is_load}
use Rattle.fs_model.specs.Execution.{IsTrace, pre_execution}
use Rattle.fs_model.specs.Choices.{choices_of, ComesBefore}
use Rattle.fs_model.specs.Shows.{is_store_to}
use Rattle.fs_model.specs.Values.{IsValue, LoadsFrom}
use Rattle.fs_cert_evidence.specs.Candidates.{Candidate, is_source}
use Rattle.fs_cert_evidence.specs.CandidateFaults.{most_candidates}
use Rattle.fs_cand_listing.specs.Ways.{orders, products}

-- these are all runs of each hart over the value sets, each once, in choice order
pub record AreAllRuns (t : Test) (lists : List (List (List Step))) : Type 0 where
  pub harts : length lists ≡ length t.codes
  pub each :
      (hart : ℕ) → hart < length t.codes → (steps : List Step)
      → Contains (slice_index_or lists hart []) steps ↔ IsTrace t hart steps × LoadsFrom (IsValue t) steps
  pub rising :
      (hart : ℕ) → hart < length t.codes → AllPairs (λ s u. ComesBefore (choices_of s) (choices_of u)) (slice_index_or lists hart [])

-- the numbers of the operations, the initial stores first
abbrev pub initial_first : PreExecution → List ℕ
initial_first x = range_with_len (length (accesses x)) (length x.words) ++ numbers_below (length (accesses x))

-- what a load may read from, the initial store first; what is no load has no source
abbrev pub sources_for : PreExecution → ℕ → List (Option ℕ)
sources_for x a = if is_load x a then map (λ s. Some s) (filter (is_source x a) (initial_first x)) else None ∷ []

-- the harts' stores to a location
abbrev pub own_stores : PreExecution → ℕ → List ℕ
own_stores x location = filter (is_store_to x location) (numbers_below (length (accesses x)))

-- the orders of a location's stores: the initial one, and then the harts' in any order
abbrev pub store_orders : PreExecution → ℕ → List (List ℕ)
store_orders x location = map (λ stores. (length (accesses x) + location) ∷ stores) (orders (own_stores x location))

-- for each operation, and for each location, all that may be chosen
abbrev pub all_sources : PreExecution → List (List (Option ℕ))
all_sources x = map (sources_for x) (numbers_below (length (operations x)))

abbrev pub all_orders : Test → PreExecution → List (List (List ℕ))
all_orders t x = map (store_orders x) (numbers_below (length t.locations))

abbrev pub candidate : List (List Step) → List (Option ℕ) → List (List ℕ) → Candidate
candidate traces source store_order = record { traces = traces; source = source; store_order = store_order }

-- the raw candidates of these runs
abbrev pub candidates_with : Test → List (List Step) → List Candidate
candidates_with t traces =
    flat_map (λ source. map (candidate traces source) (products (all_orders t (pre_execution t traces))))
    (products (all_sources (pre_execution t traces)))

-- those of all runs, where these are the runs of each hart
abbrev pub raw_candidates : Test → List (List (List Step)) → List Candidate
raw_candidates t lists = flat_map (candidates_with t) (products lists)

-- more lists of runs than there may be, or more raw candidates
abbrev pub AreOver : Test → List (List (List Step)) → Type 0
AreOver t lists = (most_candidates < length (products lists)) ⊎ (most_candidates < length (raw_candidates t lists))
