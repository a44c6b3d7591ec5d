-- The witness beside `none` gives an execution of the program with rw,rw in every slot.
use Rattle.std.proofs.Common.{◌≡◌, ℕ, Option, None, Some, List, [], ◌∷◌, map, length, refl, ap, ap₂, sym, ◌∙◌, arith}
use Rattle.std.specs.Prelude.{option_and_then, option_map, slice_get}
use Rattle.std.specs.List.{slice_index_or}
use Rattle.std.proofs.lemmas.List.{ext_get_or, length-map}
use Rattle.std.proofs.lemmas.List.FromFn.{length-enumerate_from}
use Rattle.fs_kinds.specs.declared.placement.Entry.{Entry}
use Rattle.fs_kinds.specs.declared.reason.OperationName.{OperationName as Name}
use Rattle.fs_model.specs.declared.step.Step.{Step}
use Rattle.fs_model.specs.declared.test.Test.{Test}
use Rattle.fs_model.specs.Allows.{RefutesAll, full_fences}
use Rattle.fs_model.specs.Choices.{choices_of}
use Rattle.fs_model.specs.Execution as placed
use Rattle.fs_model.specs.Execution.{Execution}
use Rattle.fs_model.specs.Executions.{IsExecution, pre_execution}
use Rattle.fs_model.specs.Fenced as test
use Rattle.fs_model.specs.OfTests.{program_of, outcome_of}
use Rattle.fs_model.specs.Operations.{PreExecution, operation, place, steps_of, trace_of}
use Rattle.fs_model.specs.Witness.{Witness, IsOfWitness, name_of, step_name}
use Rattle.fs_model_laws.specs.Fenced.{fenced_steps, fenced_traces, fenced_execution, moved_step}
use Rattle.fs_model_laws.proofs.FencedChoices.{keeps_choices}
use Rattle.fs_model_laws.proofs.FencedExecutions.{execution_there}
use Rattle.fs_model_laws.proofs.FencedLaw as no_fence
use Rattle.fs_model_laws.proofs.FencedOperations.{fenced_pre, hart_kept, index_mapped, place_moved, trace_fenced, trace_moved, trace_was}
use Rattle.fs_model_laws.proofs.FencedOutcome.{outcome_same}
use Rattle.fs_model_laws.proofs.FencedSteps.{step_there}
use Rattle.fs_model_laws.proofs.NoPlacement as no_placement
use Rattle.fs_app_guarantees.specs.Meanings.{ShowsOutcome, moved_name}

-- an execution under a placement, as one of the fenced program
pub fenced_there : (t : Test) (p : List Entry) (e : Execution) → placed.IsExecution t p e → IsExecution (program_of (test.fenced t p)) (fenced_execution p e)
fenced_there t p e is =
    let u = test.fenced t p in
    (no_placement.same_executions u (fenced_execution p e)).1 ((no_fence.same_executions u (fenced_execution p e)).1 (execution_there t p e is))

-- ---- choices

choices_kept : (t : Test) (p : List Entry) (w : Witness) (e : Execution) → IsOfWitness t w e → map choices_of (fenced_traces p e.traces) ≡ w.choices
choices_kept t p w e given =
    let traces = fenced_traces p e.traces in
    let long : length (map choices_of traces) ≡ length t.codes =
    length-map traces choices_of ∙ length-map _ (fenced_steps p) ∙ length-enumerate_from 0 e.traces ∙ given.harts in
    ext_get_or [] (map choices_of traces) w.choices (long ∙ sym given.lists)
    (λ hart low.
    let there = (keeps_choices t p hart (slice_index_or w.choices hart []) (steps_of e.traces hart) (given.runs hart (omega (arith, low, long)))).1 in
    index_mapped choices_of traces hart [] ∙ ap choices_of (trace_fenced p e.traces hart) ∙ sym there)

-- ---- names

-- the name of the step that is the operation's, if the operation is of a hart
abbrev named : List Step → ℕ → (hart : ℕ) → Option Name
named steps k hart = option_map (step_name hart) (slice_get steps k)

step_named : (p : List Entry) (hart : ℕ) (o : Option Step) (name : Name) → option_map (step_name hart) o ≡ Some name
    → option_map (step_name hart) (option_map (moved_step p hart) o) ≡ Some (moved_name p name)
step_named p hart None name e = absurd (let none : None ≡ Some name = e in cc)
step_named p hart (Some s) name e =
    let same : Some (step_name hart s) ≡ Some name = e in
    let here : step_name hart s ≡ name = cc in
    ap (λ n. Some (moved_name p n)) here

module _ (p : List Entry) (x : PreExecution) where
  -- of which hart an operation is that has a name
  hart_named : (a : ℕ) (h : Option ℕ) (name : Name) → (operation x a).hart ≡ h
      → option_and_then (λ hart. named (trace_of x a) (place x a) hart) h ≡ Some name
      → name_of (fenced_pre p x) a ≡ Some (moved_name p name)
  hart_named a None name of e = absurd (let none : None ≡ Some name = e in cc)
  hart_named a (Some hart) name of e =
      let steps = steps_of x.traces hart in
      let here : named steps (place x a) hart ≡ Some name = ap (λ ss. named ss (place x a) hart) (sym (trace_was p x a hart of)) ∙ e in
      ap (λ h. option_and_then (λ n. named (trace_of (fenced_pre p x) a) (place (fenced_pre p x) a) n) h) (hart_kept p x a ∙ of)
      ∙ ap (λ ss. named ss (place (fenced_pre p x) a) hart) (trace_moved p x a hart of)
      ∙ ap (λ k. named (fenced_steps p (hart, steps)) k hart) (place_moved p x a hart of)
      ∙ ap (option_map (step_name hart)) (step_there p hart steps (place x a))
      ∙ step_named p hart (slice_get steps (place x a)) name here

  pub name_moved : (a : ℕ) (name : Name) → name_of x a ≡ Some name → name_of (fenced_pre p x) a ≡ Some (moved_name p name)
  name_moved a name e = hart_named a (operation x a).hart name refl e

  names_moved : (order : List ℕ) (names : List Name) → map (name_of x) order ≡ map (λ name. Some name) names
      → map (name_of (fenced_pre p x)) order ≡ map (λ name. Some (moved_name p name)) names
  names_moved [] [] e = refl
  names_moved [] (n ∷ names) e = absurd (cc)
  names_moved (a ∷ order) [] e = absurd (cc)
  names_moved (a ∷ order) (n ∷ names) e =
      let whole : name_of x a ∷ map (name_of x) order ≡ Some n ∷ map (λ name. Some name) names = e in
      let first : name_of x a ≡ Some n = cc in
      let rest : map (name_of x) order ≡ map (λ name. Some name) names = cc in
      ap₂ (λ y ys. y ∷ ys) (name_moved a n first) (names_moved order names rest)

-- ---- the whole

pub shows : (t : Test) (w : Witness) (e : Execution) → IsOfWitness t w e → RefutesAll t e → ShowsOutcome (program_of t) (outcome_of t) w
shows t w e given refutes =
    let p = full_fences t in
    record {
      execution = fenced_execution p e;
      is_execution = fenced_there t p e refutes.execution;
      shows = outcome_same t p e ∙ refutes.outcome;
      choices = choices_kept t p w e given;
      order = names_moved p (pre_execution (program_of t) e.traces) e.order w.order given.order;
    }
