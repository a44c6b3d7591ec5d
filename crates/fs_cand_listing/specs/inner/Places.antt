-- Raw candidates by number: that of their runs, and then that among the raw candidates of these runs.
use Rattle.std.specs.Prelude.{◌≡◌, ℕ, ◌<◌, ◌≤◌, List, [], map, filter, length, All}
use Rattle.std.specs.List.{flat_map, range_with_len, slice_index_or}
use Rattle.fs_model.specs.declared.test.Test.{Test}
use Rattle.fs_model.specs.Test.{IsBounded}
use Rattle.fs_model.specs.Numbers.{numbers_below}
use Rattle.fs_model.specs.Operations.{operations}
use Rattle.fs_model.specs.Execution.{pre_execution}
use Rattle.fs_hart.specs.declared.trace.Trace.{Trace}
use Rattle.fs_hart.specs.Steps.{steps_in}
use Rattle.fs_model_axioms.specs.Final.{AreFinal}
use Rattle.fs_cert_evidence.specs.Candidates.{Candidate}
use Rattle.fs_cert_evidence.specs.CandidateFaults.{most_candidates}
use Rattle.fs_cand_listing.specs.declared.place.Place.{Place}
use Rattle.fs_cand_listing.specs.declared.prepared.Prepared.{Prepared}
use Rattle.fs_cand_listing.specs.Ways.{products, product_of_lengths}
use Rattle.fs_cand_listing.specs.RawCandidates.{AreAllRuns, candidate, candidates_with}
use Rattle.fs_cand_listing.specs.ShowingTests.{shows}
use Rattle.fs_values.specs.AllRuns.{HaveFinal}
use Rattle.fs_cand_listing.specs.inner.Chosen.{AreChoices}
use Rattle.fs_cand_listing.specs.inner.Tested.{any_pair_among}

-- the runs of this number, one of each list
abbrev pub runs_at : List (List Trace) → ℕ → List Trace
runs_at lists n = slice_index_or (products lists) n []

-- how many raw candidates these runs have, and the one of this number
abbrev pub count_with : Test → List Trace → ℕ
count_with t traces = length (candidates_with t (steps_in traces))

abbrev pub numbered_with : Test → List Trace → ℕ → Candidate
numbered_with t traces j = slice_index_or (candidates_with t (steps_in traces)) j (candidate [] [] [])

abbrev pub candidate_at : Test → List (List Trace) → Place → Candidate
candidate_at t lists p = numbered_with t (runs_at lists p.runs) p.chosen

-- ---- those that show the outcome

-- of n numbers from i on those whose raw candidate with these runs shows the outcome
abbrev pub showing_from : Test → List Trace → (i n : ℕ) → List ℕ
showing_from t traces i n = filter (λ j. shows t (numbered_with t traces j)) (range_with_len i n)

abbrev pub place : ℕ → ℕ → Place
place runs chosen = record { runs = runs; chosen = chosen }

abbrev pub places_with : Test → List (List Trace) → ℕ → List Place
places_with t lists n = map (place n) (showing_from t (runs_at lists n) 0 (count_with t (runs_at lists n)))

-- those with the first n lists of runs
abbrev pub places_below : Test → List (List Trace) → ℕ → List Place
places_below t lists n = flat_map (places_with t lists) (numbers_below n)

-- ---- what is known of runs and of numbers

-- runs as a bounded test has them, with their final registers
pub record CanBePrepared (t : Test) (traces : List Trace) : Type 0 where
  pub final : AreFinal t traces
  pub harts : length traces ≤ 8
  pub short : All (λ trace. length trace.steps ≤ 32) traces
  pub few : length (operations (pre_execution t (steps_in traces))) ≤ 56

-- the runs' operations and choices, and whether some two operations are a pair
pub record IsPrepared (t : Test) (p : Prepared) : Type 0 where
  pub operations : p.operations ≡ operations (pre_execution t (steps_in p.traces))
  pub choices : AreChoices (pre_execution t (steps_in p.traces)) (length t.locations) p.choices
  pub final : AreFinal t p.traces
  pub harts : length p.traces ≤ 8
  pub short : All (λ trace. length trace.steps ≤ 32) p.traces
  pub few : length p.operations ≤ 56
  pub pairs : p.has_pairs ≡ any_pair_among (steps_in p.traces) p.operations

-- the lists are all runs of each hart over the value sets, with their final registers, and have few lists of runs
pub record AreListable (t : Test) (lists : List (List Trace)) : Type 0 where
  pub bounded : IsBounded t
  pub all : AreAllRuns t (map steps_in lists)
  pub final : HaveFinal t lists
  pub few : product_of_lengths lists ≤ most_candidates

-- it is the number of a raw candidate
pub record IsPlace (t : Test) (lists : List (List Trace)) (p : Place) : Type 0 where
  pub runs : p.runs < product_of_lengths lists
  pub chosen : p.chosen < count_with t (runs_at lists p.runs)
  pub few : count_with t (runs_at lists p.runs) ≤ most_candidates

pub record AreKept (t : Test) (lists : List (List Trace)) (kept : List Place) : Type 0 where
  pub listable : AreListable t lists
  pub places : All (IsPlace t lists) kept
