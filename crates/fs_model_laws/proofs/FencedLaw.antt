-- The fenced test means the placement.
use Rattle.std.proofs.Common.{◌≡◌, ℕ, ◌+◌, ◌↔◌, false, ◌||◌, List, [], Option, None, Some, refl, ap, sym, subst, ◌∙◌}
use Rattle.std.specs.Prelude.{option_and_then, slice_get}
use Rattle.std.specs.List.{list_any}
use Rattle.fs_kinds.specs.declared.placement.Entry.{Entry}
use Rattle.fs_kinds.specs.declared.slot.Slot.{Slot}
use Rattle.fs_kinds.specs.Placement.{kind_at}
use Rattle.fs_model.specs.declared.test.Test.{Test}
use Rattle.fs_model.specs.Slots.{slots, slot_at}
use Rattle.fs_model.specs.Fenced.{fenced}
use Rattle.fs_model.specs.declared.step.Step.{Step}
use Rattle.fs_model.specs.Numbers.{between}
use Rattle.fs_model.specs.Operations.{PreExecution, operation, classes, place, trace_of, instr_at}
use Rattle.fs_model.specs.Fences.{instr_orders, kind_orders, placed_before}
use Rattle.fs_model.specs.Allows.{Allows, Shows, no_fences}
use Rattle.fs_model.specs.Execution.{Execution, IsExecution, pre_execution}
use Rattle.fs_model_laws.specs.Fenced.{fenced_execution, ShowsFenced, ExecutesAlike, ShowsAlike, AllowsAlike}
use Rattle.fs_model_laws.proofs.FencedDepends.{none_passes}
use Rattle.fs_model_laws.proofs.FencedAlike.{Alike, axioms_there}
use Rattle.fs_model_laws.proofs.FencedExecutions.{none_at, execution_there, execution_back}
use Rattle.fs_model_laws.proofs.FencedOutcome.{outcome_same}

pub executes_alike : (t : Test) (p : List Entry) → ExecutesAlike t p
executes_alike t p u = (
  execution_back t p u,
  λ h. subst (IsExecution (fenced t p) (no_fences (fenced t p))) h.2 (execution_there t p h.0 h.1),
)

shown_there : (t : Test) (p : List Entry) (e : Execution) → Shows t p e
    → Shows (fenced t p) (no_fences (fenced t p)) (fenced_execution p e)
shown_there t p e h =
    record {
      execution = execution_there t p e h.execution;
      outcome = outcome_same t p e ∙ h.outcome;
    }

shown_back : (t : Test) (p : List Entry) (u : Execution) → Shows (fenced t p) (no_fences (fenced t p)) u → ShowsFenced t p u
shown_back t p u h =
    let found = execution_back t p u h.execution in
    let here = subst (Shows (fenced t p) (no_fences (fenced t p))) (sym found.2) h in (
      found.0,
      record {
        execution = found.1;
        outcome = sym
            (outcome_same t p found.0) ∙ here.outcome;
      },
      found.2,
    )

pub shows_alike : (t : Test) (p : List Entry) → ShowsAlike t p
shows_alike t p u = (
  shown_back t p u,
  λ h. subst (Shows (fenced t p) (no_fences (fenced t p))) h.2 (shown_there t p h.0 h.1),
)

pub allows_alike : (t : Test) (p : List Entry) → AllowsAlike t p
allows_alike t p = (
  λ h. (let found = shown_back t p h.0 h.1 in (found.0, found.1)),
  λ h. (fenced_execution p h.0, shown_there t p h.0 h.1),
)

-- ---- placements with no fence

abbrev HasNone : List Entry → Type 0
HasNone p = (s : Slot) → kind_at s p ≡ None

none_before : (p : List Entry) (none : HasNone p) (h : Option ℕ) (steps : List Step) (k : ℕ)
    → option_and_then (λ hart. option_and_then (λ s. kind_at (slot_at hart s.at) p) (slice_get steps k)) h ≡ None
none_before p none None steps k = refl
none_before p none (Some hart) steps k = none_there (slice_get steps k)
  where
    none_there : (o : Option Step) → option_and_then (λ s. kind_at (slot_at hart s.at) p) o ≡ None
    none_there None = refl
    none_there (Some s) = none (slot_at hart s.at)

module _ (x : PreExecution) (p q : List Entry) (no_p : HasNone p) (no_q : HasNone q) where
  none_orders : (r : List Entry) → HasNone r → (a b : ℕ)
      → list_any (λ k. kind_orders (classes x a) (classes x b) (placed_before x r a k)) (between (place x a) (place x b + 1))
      ≡ false
  none_orders r none a b =
      none_passes _ (λ k. ap (kind_orders (classes x a) (classes x b))
      (none_before r none (operation x a).hart (trace_of x a) k)) _

  none_alike : Alike x p x q
  none_alike =
      record {
        count = refl;
        words = refl;
        hart = λ a. refl;
        address = λ a. refl;
        loaded = λ a. refl;
        stored = λ a. refl;
        annotated = λ a. refl;
        swaps = λ a. refl;
        order = λ a b. refl;
        fences =
            λ a b low. ap (λ c. list_any (λ k. instr_orders (classes x a) (classes x b) (instr_at (trace_of x a) k))
            (between (place x a) (place x b)) || c) (none_orders q no_q a b ∙ sym (none_orders p no_p a b));
        pairs = λ a b low. refl;
        addresses = λ a b low. refl;
        words_stored = λ a b low. refl;
        controls = λ a b low. refl;
        betweens = λ a b low. refl;
      }

executed_with : (t : Test) (p q : List Entry) (e : Execution) → HasNone p → HasNone q → IsExecution t p e → IsExecution t q e
executed_with t p q e no_p no_q h =
    let x = pre_execution t e.traces in
    record { harts = h.harts; runs = h.runs; axioms = axioms_there x p x q (none_alike x p q no_p no_q) e.order h.axioms }

shown_with : (t : Test) (p q : List Entry) (e : Execution) → HasNone p → HasNone q → Shows t p e → Shows t q e
shown_with t p q e no_p no_q h =
    record { execution = executed_with t p q e no_p no_q h.execution; outcome = h.outcome }

nothing_placed : HasNone []
nothing_placed s = refl

pub same_executions : (t : Test) (e : Execution) → IsExecution t [] e ↔ IsExecution t (no_fences t) e
same_executions t e = (
  executed_with t [] (no_fences t) e nothing_placed (none_at (slots t)),
  executed_with t (no_fences t) [] e
      (none_at (slots t)) nothing_placed,
)

pub same_shown : (t : Test) (e : Execution) → Shows t [] e ↔ Shows t (no_fences t) e
same_shown t e = (
  shown_with t [] (no_fences t) e nothing_placed (none_at (slots t)),
  shown_with t (no_fences t) [] e
      (none_at (slots t)) nothing_placed,
)

pub same_allowed : (t : Test) → Allows t [] ↔ Allows t (no_fences t)
same_allowed t = (λ h. (h.0, (same_shown t h.0).0 h.1), λ h. (h.0, (same_shown t h.0).1 h.1))
