-- The dependencies of a candidate are those of its runs, between operations of one hart.
use Rattle.std.proofs.Common.{◌≡◌, ℕ, ◌+◌, ◌-◌, ◌<◌, true, Option, Some, option_map, unwrap_or, List, [], length, sym, ap, subst, arith}
use Rattle.std.specs.List.{list_any, slice_index_or}
use Rattle.std.proofs.lemmas.Option.{unwrap_or-slice_get, slice_get_within}
use Rattle.std.proofs.lemmas.List.{length-map}
use Rattle.fs_model.specs.Numbers.{between}
use Rattle.fs_model.specs.declared.step.Step.{Step}
use Rattle.fs_model.specs.Operations.{PreExecution, operation, place, steps_of, trace_of, po}
use Rattle.fs_model.specs.Dependencies.{address_depends, address_dependency, data_dependency, control_dependency, address_between}
use Rattle.fs_model.proofs.RangeTests.{any_alike}
use Rattle.fs_model.proofs.WhichOperation.{of_hart}
use Rattle.fs_model.proofs.ProgramOrder.{in_po}
use Rattle.fs_deps.specs.Masks.{IsDepsOf, has_address, has_data, has_control}
use Rattle.fs_cand.specs.declared.candidate.Candidate.{Candidate}
use Rattle.fs_hart.specs.Steps.{steps_in}
use Rattle.fs_cand.specs.Candidates.{runs_of, IsMade}
use Rattle.fs_ppo.specs.inner.Parts.{deps_of}

-- the dependencies in the run of a's hart, where b is an operation
record AreDeps (c : Candidate) (x : PreExecution) (a b : ℕ) : Type 0 where
  pub made : IsDepsOf (trace_of x a) (deps_of c (operation x a).hart)
  pub placed : place x b < length (trace_of x a)

deps_at : (c : Candidate) (words : List ℕ) (a b h : ℕ) → IsMade words c → (operation (runs_of c words) a).hart ≡ Some h
    → (operation (runs_of c words) b).hart ≡ Some h → AreDeps c (runs_of c words) a b
deps_at c words a b h made first second =
    let there = of_hart (runs_of c words) b h second in
    let many : h < length c.traces = omega (arith, there.traced, length-map c.traces (λ trace. trace.steps)) in
    let trace : trace_of (runs_of c words) a ≡ steps_of (steps_in c.traces) h = ap (λ (o : Option ℕ). unwrap_or (option_map (steps_of (steps_in c.traces)) o) []) first in
    let deps : deps_of c (operation (runs_of c words) a).hart ≡ slice_index_or c.deps h [] = cc (first, unwrap_or-slice_get c.deps h []) in
    record {
      made = subst (λ (steps : List Step). IsDepsOf steps (deps_of c (operation (runs_of c words) a).hart)) (sym trace)
          (subst (IsDepsOf (steps_of (steps_in c.traces) h)) (sym deps) (made.deps h many));
      placed = subst (λ (steps : List Step). place (runs_of c words) b < length steps) (sym trace)
          (slice_get_within (steps_of (steps_in c.traces) h) (place (runs_of c words) b) there.step there.there);
    }

are_deps : (c : Candidate) (words : List ℕ) (a b : ℕ) → IsMade words c → po (runs_of c words) a b ≡ true → AreDeps c (runs_of c words) a b
are_deps c words a b made before = let at = in_po (runs_of c words) a b before in deps_at c words a b at.hart made at.first at.second

pub address_made : (c : Candidate) (words : List ℕ) (a b : ℕ) → IsMade words c → po (runs_of c words) a b ≡ true
    → has_address (deps_of c (operation (runs_of c words) a).hart) (place (runs_of c words) a) (place (runs_of c words) b) ≡ address_dependency (runs_of c words) a b
address_made c words a b made before = let d = are_deps c words a b made before in d.made.address _ _ d.placed

pub data_made : (c : Candidate) (words : List ℕ) (a b : ℕ) → IsMade words c → po (runs_of c words) a b ≡ true
    → has_data (deps_of c (operation (runs_of c words) a).hart) (place (runs_of c words) a) (place (runs_of c words) b) ≡ data_dependency (runs_of c words) a b
data_made c words a b made before = let d = are_deps c words a b made before in d.made.«data» _ _ d.placed

pub control_made : (c : Candidate) (words : List ℕ) (a b : ℕ) → IsMade words c → po (runs_of c words) a b ≡ true
    → has_control (deps_of c (operation (runs_of c words) a).hart) (place (runs_of c words) a) (place (runs_of c words) b) ≡ control_dependency (runs_of c words) a b
control_made c words a b made before = let d = are_deps c words a b made before in d.made.control _ _ d.placed

pub between_made : (c : Candidate) (words : List ℕ) (a b : ℕ) → IsMade words c → po (runs_of c words) a b ≡ true
    → list_any (has_address (deps_of c (operation (runs_of c words) a).hart) (place (runs_of c words) a)) (between (place (runs_of c words) a) (place (runs_of c words) b))
    ≡ address_between (runs_of c words) a b
between_made c words a b made before =
    let x = runs_of c words in
    let d = are_deps c words a b made before in
    any_alike (has_address (deps_of c (operation x a).hart) (place x a)) (address_depends (trace_of x a) (place x a)) (place x a + 1) (place x b - (place x a + 1))
    (λ m low high. d.made.address (place x a) m (omega (arith, low, high, d.placed)))
