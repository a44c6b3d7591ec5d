-- The executions of the emptied test, with the FENCEs as a placement, are those of the test.
use Rattle.std.proofs.Common.{◌≡◌, ◌↔◌, ℕ, zero, suc, ◌+◌, ◌<◌, List, [], ◌∷◌, length, map, refl, ap, sym, subst, ◌∙◌, arith}
use Rattle.std.specs.List.{slice_index_or}
use Rattle.std.proofs.lemmas.List.{length-map}
use Rattle.fs_kinds.specs.declared.placement.Entry.{Entry}
use Rattle.fs_model.specs.declared.hart.Hart.{Hart}
use Rattle.fs_model.specs.declared.step.Step.{Step}
use Rattle.fs_model.specs.declared.test.Test.{Test}
use Rattle.fs_model.specs.Condition.{condition_of}
use Rattle.fs_model.specs.Execute.{read}
use Rattle.fs_model.specs.Trace.{Runs, hart_after, start_with}
use Rattle.fs_model.specs.Operations.{steps_of}
use Rattle.fs_model.specs.Execution.{Execution, IsExecution, IsTrace, ObeysAxioms, code_of, registers_of, pre_execution}
use Rattle.fs_model.specs.Shows.{is_outcome, final_register, final_word, has_outcome}
use Rattle.fs_model.specs.Allows.{Allows, Shows, no_fences}
use Rattle.fs_model_axioms.proofs.Registers.{holds_same}
use Rattle.fs_model_laws.proofs.FencedAlike.{Alike, alike_back, axioms_there, final_word_same}
use Rattle.fs_model_laws.proofs.FencedLaw.{same_allowed}
use Rattle.fs_model_laws.proofs.FencedOperations.{index_mapped}
use Rattle.fs_model_laws.proofs.Weakening.{allows-no-less}
use Rattle.fs_model_laws.specs.InPlace.{IsFollowed, as_written, emptied, emptied_code}
use Rattle.fs_model_laws.proofs.Emptying.{emptied_step}
use Rattle.fs_model_laws.proofs.EmptiedRuns.{end_there, run_there, run_back}
use Rattle.fs_model_laws.proofs.EmptiedOperations.{emptied_traces, trace_emptied}
use Rattle.fs_model_laws.proofs.EmptiedFences.{AreRuns, emptied_alike}

abbrev emptied_execution : Execution → Execution
emptied_execution e = record { traces = emptied_traces e.traces; order = e.order }

-- ---- the code and the run of each hart

code_emptied : (t : Test) (hart : ℕ) → code_of (emptied t) hart ≡ emptied_code (code_of t hart)
code_emptied t hart = index_mapped emptied_code t.codes hart []

trace_there : (t : Test) (hart : ℕ) (ss : List Step) → IsTrace t hart ss → IsTrace (emptied t) hart (map emptied_step ss)
trace_there t hart ss r =
    subst (λ code. Runs (length t.locations) code (registers_of t hart) (map emptied_step ss)) (sym (code_emptied t hart))
    (run_there (length t.locations) (code_of t hart) (registers_of t hart) ss r)

trace_back : (t : Test) (hart : ℕ) (us : List Step) → IsTrace (emptied t) hart us
    → (ss : List Step) × IsTrace t hart ss × (map emptied_step ss ≡ us)
trace_back t hart us r =
    run_back (length t.locations) (code_of t hart) (registers_of t hart) us
    (subst (λ code. Runs (length t.locations) code (registers_of t hart) us) (code_emptied t hart) r)

-- ---- from an execution to the emptied one

alike : (t : Test) (traces : List (List Step)) → length traces ≡ length t.codes → AreRuns t traces
    → Alike (pre_execution t traces) [] (pre_execution (emptied t) (emptied_traces traces)) (as_written t)
alike t traces harts runs = emptied_alike t (pre_execution t traces) harts runs

execution_there : (t : Test) (e : Execution) → IsExecution t [] e → IsExecution (emptied t) (as_written t) (emptied_execution e)
execution_there t e is =
    let codes = length-map t.codes emptied_code in
    record {
      harts = length-map e.traces (map emptied_step) ∙ is.harts ∙ sym codes;
      runs =
          λ hart low. subst (IsTrace (emptied t) hart) (sym (trace_emptied e.traces hart))
          (trace_there t hart (steps_of e.traces hart) (is.runs hart (omega (arith, low, codes))));
      axioms =
          axioms_there (pre_execution t e.traces) [] (pre_execution (emptied t) (emptied_traces e.traces)) (as_written t)
          (alike t e.traces is.harts is.runs) e.order is.axioms;
    }

-- ---- and back

-- runs of the harts from n on that become these
record AreRunsOf (t : Test) (n : ℕ) (us ts : List (List Step)) : Type 0 where
  pub emptied : emptied_traces ts ≡ us
  pub long : length ts ≡ length us
  pub runs : (k hart : ℕ) → hart ≡ n + k → k < length ts → IsTrace t hart (slice_index_or ts k [])

one_of : (t : Test) (n : ℕ) (ss : List Step) (ts : List (List Step)) → IsTrace t n ss
    → ((k hart : ℕ) → hart ≡ n + 1 + k → k < length ts → IsTrace t hart (slice_index_or ts k [])) → (k hart : ℕ)
    → hart ≡ n + k → k < length (ss ∷ ts) → IsTrace t hart (slice_index_or (ss ∷ ts) k [])
one_of t n ss ts first rest zero hart at low =
    let same : n ≡ hart = omega (arith, at) in subst (λ k. IsTrace t k ss) same first
one_of t n ss ts first rest (suc k) hart at low = rest k hart (omega (arith, at)) (omega (arith, low))

traces_back : (t : Test) (n : ℕ) (us : List (List Step))
    → ((k hart : ℕ) → hart ≡ n + k → k < length us → IsTrace (emptied t) hart (slice_index_or us k []))
    → (ts : List (List Step)) × AreRunsOf t n us ts
traces_back t n [] h = ([], record { emptied = refl; long = refl; runs = λ k hart at low. absurd (omega (arith, low)) })
traces_back t n (u ∷ us) h =
    let first = trace_back t n u (h 0 n (omega arith) (omega arith)) in
    let rest = traces_back t (n + 1) us (λ k hart at low. h (suc k) hart (omega (arith, at)) (omega (arith, low))) in
    let same = rest.1.long in (
      first.0 ∷ rest.0,
      record {
        emptied = ap (λ v. v ∷ emptied_traces rest.0) first.2 ∙ ap (λ vs. u ∷ vs) rest.1.emptied;
        long = omega (arith, same);
        runs = one_of t n first.0 rest.0 first.1 rest.1.runs;
      },
    )

own_trace : (t : Test) (u : Execution) → IsExecution (emptied t) (as_written t) u → (k hart : ℕ) → hart ≡ 0 + k
    → k < length u.traces → IsTrace (emptied t) hart (slice_index_or u.traces k [])
own_trace t u is k hart at low =
    let harts = is.harts in
    let same : hart ≡ k = omega (arith, at) in
    let run = is.runs hart (omega (arith, at, low, harts)) in
    subst (λ j. IsTrace (emptied t) hart (steps_of u.traces j)) same run

execution_back : (t : Test) (u : Execution) → IsExecution (emptied t) (as_written t) u
    → (e : Execution) × IsExecution t [] e × (emptied_execution e ≡ u)
execution_back t u is =
    let found = traces_back t 0 u.traces (own_trace t u is) in
    let codes = length-map t.codes emptied_code in
    let harts = is.harts in
    let long = found.1.long in
    let whole : length found.0 ≡ length t.codes = omega (arith, long, codes, harts) in
    let runs : AreRuns t found.0 = λ hart low. found.1.runs hart hart (omega arith) (omega (arith, low, whole)) in
    let x = pre_execution t found.0 in
    let y = pre_execution (emptied t) (emptied_traces found.0) in
    let obeys : ObeysAxioms y (as_written t) u.order =
    subst (λ ts. ObeysAxioms (pre_execution (emptied t) ts) (as_written t) u.order) (sym found.1.emptied) is.axioms in
    let same = alike_back x [] y (as_written t) (alike t found.0 whole runs) in (
      record { traces = found.0; order = u.order },
      record {
        harts = whole;
        runs = runs;
        axioms = axioms_there y (as_written t) x [] same u.order obeys;
      },
      ap (λ ts. record { traces = ts; order = u.order }) found.1.emptied,
    )

-- ---- what it shows

register_same : (t : Test) (e : Execution) (hart reg : ℕ)
    → final_register (emptied t) (emptied_traces e.traces) hart reg ≡ final_register t e.traces hart reg
register_same t e hart reg =
    let h = start_with (registers_of t hart) in
    ap (λ ss. read (hart_after h ss).registers reg) (trace_emptied e.traces hart)
    ∙ ap (λ (k : Hart). read k.registers reg) (end_there h (steps_of e.traces hart))

outcome_same : (t : Test) (e : Execution) → IsExecution t [] e → has_outcome (emptied t) (emptied_execution e) ≡ has_outcome t e
outcome_same t e is =
    let x = pre_execution t e.traces in
    let y = pre_execution (emptied t) (emptied_traces e.traces) in
    let words = final_word_same x [] y (as_written t) (alike t e.traces is.harts is.runs) e.order in
    ap (is_outcome t.quantifier)
    (holds_same (final_register (emptied t) (emptied_traces e.traces)) (final_register t e.traces)
    (final_word y e.order) (final_word x e.order) (register_same t e) words (condition_of t.condition))

-- ---- the laws

allowed_there : (t : Test) → Allows t [] → Allows (emptied t) (as_written t)
allowed_there t h =
    let is = h.1.execution in (
      emptied_execution h.0,
      record {
        execution = execution_there t h.0 is;
        outcome = outcome_same t h.0 is ∙ h.1.outcome;
      },
    )

allowed_back : (t : Test) → Allows (emptied t) (as_written t) → Allows t []
allowed_back t h =
    let found = execution_back t h.0 h.1.execution in
    let shown = subst (Shows (emptied t) (as_written t)) (sym found.2) h.1 in (
      found.0,
      record {
        execution = found.1;
        outcome = sym (outcome_same t found.0 found.1) ∙ shown.outcome;
      },
    )

pub same_allowed_in_place : (t : Test) → Allows (emptied t) (as_written t) ↔ Allows t (no_fences t)
same_allowed_in_place t = (
  λ h. (same_allowed t).0 (allowed_back t h),
  λ h. allowed_there t ((same_allowed t).1 h),
)

pub followed_ruled_out : (t u : Test) (p : List Entry) → IsFollowed t p u → (Allows (emptied t) p → ⊥) → Allows u (no_fences u) → ⊥
followed_ruled_out t u p followed out possible =
    let there = (same_allowed_in_place u).1 possible in
    let weaker = (allows-no-less (emptied u) p (as_written u) followed.orders).allows there in
    out (subst (λ (v : Test). Allows v p) followed.rest weaker)
