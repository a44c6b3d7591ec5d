-- Candidates and the orders that make executions of them.
use Rattle.std.specs.Prelude.{◌≡◌, ℕ, ◌<◌, ◌≤◌, nat_lt, Bool, true, None, List, map, filter, length, if◌then◌else◌}
use Rattle.std.specs.List.{list_all}
use Rattle.fs_kinds.specs.declared.placement.Entry.{Entry}
use Rattle.fs_model.specs.declared.test.Test.{Test}
use Rattle.fs_model.specs.Numbers.{has_number, numbers_below, stands_before}
use Rattle.fs_model.specs.Operations.{accesses, operations, is_load}
use Rattle.fs_model.specs.Source.{lists_each_once, gmo, source_in}
use Rattle.fs_model.specs.Shows.{is_store_to}
use Rattle.fs_model.specs.Execution.{Execution, pre_execution}
use Rattle.fs_model.specs.Allows.{Shows}
use Rattle.fs_cert_evidence.specs.Candidates.{Candidate, IsShowing, runs_of, rf}
use Rattle.fs_cert_evidence.specs.Judged.{is_judged}
use Rattle.fs_cert_evidence.specs.Cycles.{around}

-- The order has each operation of the harts once, and the global memory order goes the way of each edge of the judged
-- relation.
pub record IsOrdered (t : Test) (p : List Entry) (c : Candidate) (order : List ℕ) : Type 0 where
  pub once : lists_each_once (runs_of t c) order ≡ true
  pub respects : (a b : ℕ) → is_judged (runs_of t c) p c a b ≡ true → stands_before (gmo (runs_of t c) order) a b ≡ true

-- the candidate's runs in this order
abbrev pub ordered_by : Candidate → List ℕ → Execution
ordered_by c order = record { traces = c.traces; order = order }

-- the candidate of an execution: the sources that its order gives, and for each location its stores in that order
abbrev pub candidate_of : Test → Execution → Candidate
candidate_of t e = record {
  traces = e.traces;
  source =
      map (λ a. if is_load (pre_execution t e.traces) a then source_in (pre_execution t e.traces) e.order a else None)
      (numbers_below (length (operations (pre_execution t e.traces))));
  store_order =
      map (λ location. filter (is_store_to (pre_execution t e.traces) location) (gmo (pre_execution t e.traces) e.order))
      (numbers_below (length t.locations));
}

-- they show the outcome, each load returns from the candidate's source, and the order of stores is the candidate's
pub record IsExecuted (t : Test) (p : List Entry) (c : Candidate) (order : List ℕ) : Type 0 where
  pub shows : Shows t p (ordered_by c order)
  pub sources : (a : ℕ) → is_load (runs_of t c) a ≡ true → source_in (runs_of t c) order a ≡ rf c a
  pub candidate : candidate_of t (ordered_by c order) ≡ c

-- a list of all operations, initial stores too, each once, that goes the way of each edge: what sorting the relation
-- gives
pub record IsSorted (t : Test) (p : List Entry) (c : Candidate) (sorted : List ℕ) : Type 0 where
  pub long : length sorted ≡ length (operations (runs_of t c))
  pub all : (a : ℕ) → a < length (operations (runs_of t c)) → has_number sorted a ≡ true
  pub respects : (a b : ℕ) → is_judged (runs_of t c) p c a b ≡ true → stands_before sorted a b ≡ true

-- the operations of the harts among these
abbrev pub of_harts : Test → Candidate → List ℕ → List ℕ
of_harts t c sorted = filter (λ a. nat_lt a (length (accesses (runs_of t c)))) sorted

-- each number has an edge to the next, and the last to the first
pub record IsRound (edge : ℕ → ℕ → Bool) (numbers : List ℕ) : Type 0 where
  pub some : 1 ≤ length numbers
  pub edges : list_all (λ pair. edge pair.0 pair.1) (around numbers) ≡ true

-- no cycle
abbrev pub IsAcyclic : (ℕ → ℕ → Bool) → Type 0
IsAcyclic edge = (numbers : List ℕ) → IsRound edge numbers → ⊥

-- some showing candidate has an order that respects its judged relation
abbrev pub HasOrdered : Test → List Entry → Type 0
HasOrdered t p = (c : Candidate) × (order : List ℕ) × IsShowing t c × IsOrdered t p c order

-- some showing candidate has no cycle in its judged relation
abbrev pub HasAcyclic : Test → List Entry → Type 0
HasAcyclic t p = (c : Candidate) × IsShowing t c × IsAcyclic (is_judged (runs_of t c) p c)
