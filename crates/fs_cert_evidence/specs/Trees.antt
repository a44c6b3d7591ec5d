-- Refutations: a tree of inferences over regions, in preorder. An inference splits a region, or shows that its
-- showing candidates have a cycle in common, or that it has none. Whoever checks a tree looks at each inference once,
-- and searches for nothing.
use Rattle.std.specs.Prelude.{◌≡◌, ℕ, ◌≤◌, ◌==◌, nat_le, nat_lt, Bool, true, false, ◌&&◌, not, None, List, [], ◌∷◌, ◌++◌, filter, length, take, drop, slice_get}
use Rattle.std.specs.List.{Contains, flat_map, list_all, zip}
use Rattle.fs_kinds.specs.declared.placement.Entry.{Entry}
use Rattle.fs_kinds.specs.declared.reason.OperationName.{OperationName as Name}
use Rattle.fs_model.specs.declared.test.Test.{Test}
use Rattle.fs_model.specs.Condition.{condition_of}
use Rattle.fs_model.specs.Slots.{is_memory_at}
use Rattle.fs_model.specs.declared.step.Step.{Step}
use Rattle.fs_model.specs.Numbers.{numbers_below}
use Rattle.fs_model.specs.Execution.{code_of}
use Rattle.fs_model.specs.Shows.{is_outcome}
use Rattle.fs_model.specs.Values.{HasAllRuns}
use Rattle.fs_cert_evidence.specs.Candidates.{Candidate, IsShowing}
use Rattle.fs_cert_evidence.specs.Certificate.{Link, Inference, ByChoice, BySource, ByOrder, ByCases, Filter, Cycle, Stale, Reversed, Parted}
use Rattle.fs_cert_evidence.specs.Cycles.{IsCycle, most_links}
use Rattle.fs_cert_evidence.specs.Regions.{Region, same_name, stored_at}
use Rattle.fs_cert_evidence.specs.Musts.{must, must_meet, must_pair, is_before, overwrites}
use Rattle.fs_cert_evidence.specs.Splits.{by_choice, by_source, by_order, by_cases, by_outcome, ways_of}

module _ (t : Test) where
  -- the instruction there is one that accesses memory
  abbrev pub is_name : Name → Bool
  is_name name = is_memory_at (code_of t name.hart) name.at

  -- each hart has a run left: else there is no candidate
  abbrev pub is_open : Region → Bool
  is_open region = list_all (λ hart. nat_lt 0 (length (region.runs hart))) (numbers_below (length t.codes))

  -- each link with the next one, and the last with the first
  abbrev pub links_around : List Link → List (Link × Link)
  links_around links = zip links (drop 1 links ++ take 1 links)

  abbrev pub must_be_cycle : List Entry → Region → List Link → Bool
  must_be_cycle p region links =
      nat_lt 0 (length links) && nat_le (length links) most_links
      && list_all (λ pair. must t region p pair.0.cause pair.0.operation pair.1.operation) (links_around links)

  -- the inference can be drawn from the region
  abbrev pub follows : List Entry → Region → Inference → Bool
  follows p region (ByChoice name) = is_name name
  follows p region (BySource load) = is_name load
  follows p region (ByOrder first second) =
      must_meet t region stored_at stored_at first second
      && (not (same_name first second) && (not (region.before first second) && not (region.before second first)))
  follows p region (ByCases condition) = nat_lt 0 (length (ways_of (slice_get region.wanted condition)))
  follows p region (Filter hart) = nat_lt hart (length t.codes)
  follows p region (Cycle links) = must_be_cycle p region links
  follows p region (Stale load store) =
      (store.hart == load.hart) && (nat_lt store.at load.at && overwrites t region store load)
  follows p region (Reversed load store) = must_pair t region load store && is_before region store (region.source load)
  follows p region (Parted load store other) =
      must_pair t region load store
      && (not (other.hart == store.hart) && (region.before other store && overwrites t region other load))

  -- the regions that it splits into
  abbrev pub children : Region → Inference → List Region
  children region (ByChoice name) = by_choice name region
  children region (BySource load) = by_source t load region
  children region (ByOrder first second) = by_order first second region
  children region (ByCases condition) = by_cases condition region
  children region (Filter hart) = by_outcome t hart region
  children region _ = []

  -- those of them that have a candidate, as far as their runs tell
  abbrev pub left_after : Region → Inference → List Region
  left_after region inference = filter is_open (children region inference)

  -- the inferences are one whole tree for each of the regions, in preorder
  abbrev pub refutes : List Entry → List Region → List Inference → Bool
  refutes p [] [] = true
  refutes p [] (inference ∷ inferences) = false
  refutes p (region ∷ regions) [] = false
  refutes p (region ∷ regions) (inference ∷ inferences) =
      follows p region inference && refutes p (left_after region inference ++ regions) inferences

-- ---- the whole test

-- all candidates of these runs that have the outcome
abbrev pub root : Test → (ℕ → List (List Step)) → Region
root t runs = record {
  runs = runs;
  source = λ name. None;
  before = λ first second. false;
  wanted = (condition_of t.condition, is_outcome t.quantifier true) ∷ [];
}

-- the regions that are open at first
abbrev pub roots : Test → (ℕ → List (List Step)) → List Region
roots t runs = filter (is_open t) (root t runs ∷ [])

-- the inferences are one whole tree for the test, with these runs
abbrev pub refutes_test : Test → List Entry → (ℕ → List (List Step)) → List Inference → Bool
refutes_test t p runs inferences = refutes t p (roots t runs) inferences

-- of each hart of the test all runs, and of no other hart any: one list for each hart is so
pub record AreItsRuns (t : Test) (runs : ℕ → List (List Step)) : Type 0 where
  pub all : HasAllRuns t runs
  pub others : (hart : ℕ) → length t.codes ≤ hart → runs hart ≡ []

-- the inferences refute the whole test under the placement
pub record IsRefuted (t : Test) (p : List Entry) (inferences : List Inference) : Type 0 where
  pub runs : ℕ → List (List Step)
  pub all : AreItsRuns t runs
  pub refuted : refutes_test t p runs inferences ≡ true

-- ---- what it shows

abbrev pub cycle_in : Inference → List (List Link)
cycle_in (Cycle links) = links ∷ []
cycle_in _ = []

abbrev pub cycles_in : List Inference → List (List Link)
cycles_in = flat_map cycle_in

-- one of these is a cycle of the candidate's judged relation under the placement
abbrev pub HasCycleOf : Test → List Entry → List (List Link) → Candidate → Type 0
HasCycleOf t p cycles c = (links : List Link) × Contains cycles links × IsCycle t p c links

-- Whatever refutes under p refutes under q: regions, and so the whole test.
pub record RefutesNoLess (t : Test) (p q : List Entry) : Type 0 where
  pub regions :
      (regions : List Region) (inferences : List Inference)
      → refutes t p regions inferences ≡ true → refutes t q regions inferences ≡ true
  pub refuted : (inferences : List Inference) → IsRefuted t p inferences → IsRefuted t q inferences

-- each showing candidate has one of these cycles
abbrev pub Covers : Test → List Entry → List (List Link) → Type 0
Covers t p cycles = (c : Candidate) → IsShowing t c → HasCycleOf t p cycles c
