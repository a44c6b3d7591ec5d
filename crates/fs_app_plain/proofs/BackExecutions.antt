-- Of an exact test, an execution with 64 bits is one with 32 bits, extended, whose loads return words of the value
-- sets.
use Rattle.std.proofs.Common.{◌≡◌, ℕ, zero, suc, ◌<◌, ◌≤◌, None, List, [], ◌∷◌, length, map, refl, ap, subst, ◌∙◌, arith}
use Rattle.fs_kinds.specs.declared.placement.Entry.{Entry}
use Rattle.fs_model.specs.declared.test.Test.{Test}
use Rattle.fs_model.specs.declared.hart.Hart.{Hart}
use Rattle.fs_model.specs.declared.step.Step.{Step}
use Rattle.fs_model.specs.Test.{IsTest}
use Rattle.fs_model.specs.Operations.{steps_of}
use Rattle.fs_model.specs.Trace.{start_with}
use Rattle.fs_model.specs.Execution.{Execution, IsTrace, code_of, registers_of}
use Rattle.fs_model.specs.Values.{LoadsFrom, IsValue, AreRunsOverValues, rounds}
use Rattle.fs_model.proofs.OptionalNumbers.{not_none}
use Rattle.fs_values.specs.ThinAir.{NeverAstray}
use Rattle.fs_app_plain.specs.Wide.{IsWideExecution, IsExactTest, extended_step, extended_execution}
use Rattle.fs_app_plain.proofs.Given.{WordLaws}
use Rattle.fs_app_plain.proofs.BackGrounded.{value_at, grounded}
use Rattle.fs_app_plain.proofs.BackRuns.{narrow_from, each_exact, initial_of, start_words, code_of_table, value_small}

-- lists of steps, one for each of these, that extended are these
record Collected (P : ℕ → List Step → Type 0) (traces : List (List Step)) : Type 0 where
  runs : List (List Step)
  long : length runs ≡ length traces
  each : (hart : ℕ) → hart < length traces → P hart (steps_of runs hart)
  same : map (map extended_step) runs ≡ traces

collect : (P : ℕ → List Step → Type 0) (traces : List (List Step))
    → ((hart : ℕ) → hart < length traces → (us : List Step) × P hart us × (map extended_step us ≡ steps_of traces hart))
    → Collected P traces
collect P [] f = record { runs = []; long = refl; each = λ hart low. absurd (omega (arith, low)); same = refl }
collect P (ss ∷ traces) f =
    let first = f 0 (omega arith) in
    let rest = collect (λ hart. P (suc hart)) traces (λ hart low. f (suc hart) (omega (arith, low))) in
    record {
      runs = first.0 ∷ rest.runs;
      long = ap suc rest.long;
      each = each first.0 first.1 rest.runs rest.each;
      same = ap (λ us. us ∷ map (map extended_step) rest.runs) first.2 ∙ ap (λ uss. ss ∷ uss) rest.same;
    }
  where
    each : (us : List Step) → P 0 us → (uss : List (List Step))
        → ((hart : ℕ) → hart < length traces → P (suc hart) (steps_of uss hart))
        → (hart : ℕ) → hart < length (ss ∷ traces) → P hart (steps_of (us ∷ uss) hart)
    each us here uss later zero low = here
    each us here uss later (suc hart) low = later hart (omega (arith, low))

module _ (laws : WordLaws) where
  module _ (t : Test) (p : List Entry) (e : Execution) (is_test : IsTest t) (never : NeverAstray t) (exact : IsExactTest t)
      (is_execution : IsWideExecution t p e) where
    -- a run over the value sets
    abbrev IsOverValues : ℕ → List Step → Type 0
    IsOverValues hart us = IsTrace t hart us × LoadsFrom (IsValue t) us

    of_hart : (hart : ℕ) → hart < length t.codes
        → (us : List Step) × IsOverValues hart us × (map extended_step us ≡ steps_of e.traces hart)
    of_hart hart low =
        let n = length t.locations in
        let code = code_of t hart in
        let start = start_with (registers_of t hart) in
        let initial = initial_of t is_test.words (IsValue t) (λ k w v. value_at t 0 (rounds t) k w (omega arith) v) in
        let all = each_exact t is_test.bounded (IsValue t) initial hart low
        (never (rounds t) hart (omega arith) low) exact (λ k w v. v) in
        let run = is_execution.runs hart low in
        let narrow = narrow_from laws n is_test.bounded.locations code (code_of_table t is_test hart low) (IsValue t)
        (value_small laws t is_test (rounds t)) start (steps_of e.traces hart) (start_words t is_test hart low)
        (λ a q. absurd (not_none None a refl q)) all run.0 (grounded laws t is_test never exact p e is_execution hart low) in
        (narrow.run, ((narrow.made, subst (λ (h : Hart). length code ≤ h.at) narrow.ends run.1), narrow.takes), narrow.same)

    all : Collected IsOverValues e.traces
    all =
        let same = is_execution.harts in
        collect IsOverValues e.traces (λ hart low. of_hart hart (omega (arith, low, same)))

    -- the execution in 32 bits
    pub narrow_execution : Execution
    narrow_execution = record { traces = all.runs; order = e.order }

    pub over_values : AreRunsOverValues t narrow_execution.traces
    unfolding narrow_execution
    over_values =
        let same = is_execution.harts in
        record {
          harts = all.long ∙ is_execution.harts;
          runs = λ hart low. (all.each hart (omega (arith, low, same))).0;
          values = λ hart low. (all.each hart (omega (arith, low, same))).1;
        }

    pub same_order : narrow_execution.order ≡ e.order
    unfolding narrow_execution
    same_order = refl

    pub same_traces : map (map extended_step) narrow_execution.traces ≡ e.traces
    unfolding narrow_execution
    same_traces = all.same

    pub extends_to : extended_execution narrow_execution ≡ e
    extends_to =
        ap (λ traces. record { traces = traces; order = narrow_execution.order }) same_traces
        ∙ ap (λ order. record { traces = e.traces; order = order }) same_order

  pub from_wide : (t : Test) (p : List Entry) (e : Execution) → IsTest t → NeverAstray t → IsExactTest t
      → IsWideExecution t p e
      → (f : Execution) × ((hart : ℕ) → hart < length t.codes → IsTrace t hart (steps_of f.traces hart))
      × (length f.traces ≡ length t.codes) × (f.order ≡ e.order) × (map (map extended_step) f.traces ≡ e.traces)
  from_wide t p e is_test never exact is_execution =
      let runs = over_values t p e is_test never exact is_execution in (
        narrow_execution t p e is_test never exact is_execution,
        runs.runs,
        runs.harts,
        same_order t p e is_test never exact is_execution,
        same_traces t p e is_test never exact is_execution,
      )

  -- the same with the words that its loads return
  pub from_wide_values : (t : Test) (p : List Entry) (e : Execution) → IsTest t → NeverAstray t → IsExactTest t
      → IsWideExecution t p e
      → (f : Execution) × AreRunsOverValues t f.traces × (f.order ≡ e.order) × (map (map extended_step) f.traces ≡ e.traces)
  from_wide_values t p e is_test never exact is_execution = (
    narrow_execution t p e is_test never exact is_execution,
    over_values t p e is_test never exact is_execution,
    same_order t p e is_test never exact is_execution,
    same_traces t p e is_test never exact is_execution,
  )
