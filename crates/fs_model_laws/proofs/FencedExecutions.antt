-- The executions of the fenced test are the fenced executions of the test.
use Rattle.std.proofs.Common.{◌≡◌, ℕ, zero, suc, ◌+◌, ◌<◌, Bool, true, false, List, [], ◌∷◌, map, length, cond, Option, None, Some, refl, ap, sym, subst, ◌∙◌, arith}
use Rattle.std.specs.Prelude.{option_and_then}
use Rattle.std.specs.List.{enumerate_from, find, slice_index_or}
use Rattle.std.proofs.lemmas.List.{length-map}
use Rattle.std.proofs.lemmas.List.FromFn.{length-enumerate_from}
use Rattle.fs_kinds.specs.declared.placement.Entry.{Entry}
use Rattle.fs_kinds.specs.declared.slot.Slot.{Slot}
use Rattle.fs_kinds.specs.Slot.{is_same_slot}
use Rattle.fs_kinds.specs.Placement.{kind_at, all_with}
use Rattle.fs_model.specs.declared.test.Test.{Test}
use Rattle.fs_model.specs.Slots.{slots}
use Rattle.fs_model.specs.Fenced.{fenced, fenced_code}
use Rattle.fs_model.proofs.FencedSteps.{length-fenced_codes}
use Rattle.fs_model.specs.declared.step.Step.{Step}
use Rattle.fs_model.specs.Trace.{Runs}
use Rattle.fs_model.specs.Operations.{steps_of}
use Rattle.fs_model.specs.Execution.{Execution, IsExecution, IsTrace, ObeysAxioms, code_of, registers_of, pre_execution}
use Rattle.fs_model.specs.Allows.{no_fences}
use Rattle.fs_model_laws.specs.Fenced.{fenced_steps, fenced_traces, fenced_execution}
use Rattle.fs_model_laws.proofs.FencedOperations.{index_numbered, trace_fenced}
use Rattle.fs_model_laws.proofs.FencedAlike.{alike_back, axioms_there}
use Rattle.fs_model_laws.proofs.FencedFences.{fenced_alike}
use Rattle.fs_model_laws.proofs.FencedRuns.{run_there, run_back}

found_none : (c : Bool) (x : Slot) (rest : Option Entry) → option_and_then (λ e. e.kind) rest ≡ None
    → option_and_then (λ e. e.kind) (cond c (Some (record { slot = x; kind = None })) rest) ≡ None
found_none true x rest e = refl
found_none false x rest e = e

pub none_at : (ss : List Slot) (s : Slot) → kind_at s (all_with None ss) ≡ None
none_at [] s = refl
none_at (x ∷ xs) s = found_none (is_same_slot x s) x (find (λ e. is_same_slot e.slot s) (all_with None xs)) (none_at xs s)

-- ---- the code and the run of each hart

code_fenced : (t : Test) (p : List Entry) (hart : ℕ) → code_of (fenced t p) hart ≡ fenced_code p (hart, code_of t hart)
code_fenced t p hart = index_numbered (fenced_code p) [] [] (λ n. refl) 0 t.codes hart hart (omega arith)

pub trace_there : (t : Test) (p : List Entry) (hart : ℕ) (ss : List Step) → IsTrace t hart ss
    → IsTrace (fenced t p) hart (fenced_steps p (hart, ss))
trace_there t p hart ss r =
    subst (λ code. Runs (length t.locations) code (registers_of t hart) (fenced_steps p (hart, ss))) (sym (code_fenced t p hart))
    (run_there p hart (length t.locations) (code_of t hart) (registers_of t hart) ss r)

pub trace_back : (t : Test) (p : List Entry) (hart : ℕ) (us : List Step) → IsTrace (fenced t p) hart us
    → (ss : List Step) × IsTrace t hart ss × (fenced_steps p (hart, ss) ≡ us)
trace_back t p hart us r =
    run_back p hart (length t.locations) (code_of t hart) (registers_of t hart) us
    (subst (λ code. Runs (length t.locations) code (registers_of t hart) us) (code_fenced t p hart) r)

-- ---- from an execution to the fenced one

length_traces : (p : List Entry) (traces : List (List Step)) → length (fenced_traces p traces) ≡ length traces
length_traces p traces = length-map (enumerate_from 0 traces) (fenced_steps p) ∙ length-enumerate_from 0 traces

pub execution_there : (t : Test) (p : List Entry) (e : Execution) → IsExecution t p e
    → IsExecution (fenced t p) (no_fences (fenced t p)) (fenced_execution p e)
execution_there t p e is =
    let u = fenced t p in
    let x = pre_execution t e.traces in
    let same = length-fenced_codes p t.codes in
    record {
      harts = length_traces p e.traces ∙ is.harts ∙ sym same;
      runs =
          λ hart low. subst (IsTrace u hart) (sym (trace_fenced p e.traces hart))
          (trace_there t p hart (steps_of e.traces hart) (is.runs hart (omega (arith, low, same))));
      axioms =
          axioms_there x p (pre_execution u (fenced_traces p e.traces)) (no_fences u)
          (fenced_alike p x (no_fences u) (none_at (slots u))) e.order is.axioms;
    }

-- ---- and back

-- runs of the harts from n on that become these with their fences
record AreRunsOf (t : Test) (p : List Entry) (n : ℕ) (us ts : List (List Step)) : Type 0 where
  pub fenced : map (fenced_steps p) (enumerate_from n ts) ≡ us
  pub long : length ts ≡ length us
  pub runs : (k hart : ℕ) → hart ≡ n + k → k < length ts → IsTrace t hart (slice_index_or ts k [])

traces_back : (t : Test) (p : List Entry) (n : ℕ) (us : List (List Step))
    → ((k hart : ℕ) → hart ≡ n + k → k < length us → (ss : List Step) × IsTrace t hart ss ×
    (fenced_steps p (hart, ss) ≡ slice_index_or us k []))
    → (ts : List (List Step)) × AreRunsOf t p n us ts
traces_back t p n [] h = ([], record { fenced = refl; long = refl; runs = λ k hart at low. absurd (omega (arith, low)) })
traces_back t p n (u ∷ us) h =
    let first = h 0 n (omega arith) (omega arith) in
    let rest = traces_back t p (n + 1) us (λ k hart at low. h (suc k) hart (omega (arith, at)) (omega (arith, low))) in
    let same = rest.1.long in (
      first.0 ∷ rest.0,
      record {
        fenced = ap (λ v. v ∷ map (fenced_steps p) (enumerate_from (n + 1) rest.0)) first.2 ∙ ap (λ vs. u ∷ vs) rest.1.fenced;
        long = omega (arith, same);
        runs = λ k hart at low. one_of t n first.0 rest.0 first.1 (λ j hart at low. rest.1.runs j hart at low) k hart at low;
      },
    )
  where
    one_of : (t : Test) (n : ℕ) (ss : List Step) (ts : List (List Step)) → IsTrace t n ss
        → ((k hart : ℕ) → hart ≡ n + 1 + k → k < length ts → IsTrace t hart (slice_index_or ts k [])) → (k hart : ℕ)
        → hart ≡ n + k → k < length (ss ∷ ts) → IsTrace t hart (slice_index_or (ss ∷ ts) k [])
    one_of t n ss ts first rest zero hart at low =
        let same : n ≡ hart = omega (arith, at) in subst (λ k. IsTrace t k ss) same first
    one_of t n ss ts first rest (suc k) hart at low = rest k hart (omega (arith, at)) (omega (arith, low))

own_trace_back : (t : Test) (p : List Entry) (u : Execution) → IsExecution (fenced t p) (no_fences (fenced t p)) u
    → (k hart : ℕ) → hart ≡ 0 + k → k < length u.traces
    → (ss : List Step) × IsTrace t hart ss × (fenced_steps p (hart, ss) ≡ steps_of u.traces k)
own_trace_back t p u is k hart at low =
    let codes = length-fenced_codes p t.codes in
    let harts = is.harts in
    let same : hart ≡ k = omega (arith, at) in
    let run = is.runs hart (omega (arith, at, low, codes, harts)) in
    trace_back t p hart (steps_of u.traces k) (subst (λ j. IsTrace (fenced t p) hart (steps_of u.traces j)) same run)

pub execution_back : (t : Test) (p : List Entry) (u : Execution) → IsExecution (fenced t p) (no_fences (fenced t p)) u
    → (e : Execution) × IsExecution t p e × (fenced_execution p e ≡ u)
execution_back t p u is =
    let q = no_fences (fenced t p) in
    let codes = length-fenced_codes p t.codes in
    let harts = is.harts in
    let found = traces_back t p 0 u.traces (own_trace_back t p u is) in
    let long = found.1.long in
    let x = pre_execution t found.0 in
    let y = pre_execution (fenced t p) (fenced_traces p found.0) in
    let obeys : ObeysAxioms y q u.order = subst (λ ts. ObeysAxioms (pre_execution (fenced t p) ts) q u.order)
    (sym found.1.fenced) is.axioms in (
      record { traces = found.0; order = u.order },
      record {
        harts = omega (arith, long, codes, harts);
        runs = λ hart low. found.1.runs hart hart (omega arith) (omega (arith, low, long, codes, harts));
        axioms = axioms_there y q x p (alike_back x p y q (fenced_alike p x q (none_at (slots (fenced t p))))) u.order obeys;
      },
      ap (λ ts. record { traces = ts; order = u.order }) found.1.fenced,
    )
