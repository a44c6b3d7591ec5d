-- From runs and an order to what is said of the witness.
use Rattle.std.proofs.Common.{◌≡◌, ℕ, ◌≤◌, true, None, Some, option_map, List, [], length, map, sym, ◌∙◌, ap, subst, arith, inl, inr}
use Rattle.std.specs.Prelude.{slice_get}
use Rattle.std.proofs.lemmas.Option.{slice_get_cases, slice_get_within, slice_get-map, get_or_from_slice_get}
use Rattle.fs_kinds.specs.declared.placement.Entry.{Entry}
use Rattle.fs_kinds.specs.declared.reason.Reason.{Reason}
use Rattle.fs_kinds.specs.declared.reason.Reason.TheVariants as reason
use Rattle.fs_model.specs.declared.test.Test.{Test}
use Rattle.fs_model.specs.Test.{IsBounded}
use Rattle.fs_model.specs.declared.step.Choice.{Choice}
use Rattle.fs_model.specs.Operations.{steps_of}
use Rattle.fs_model.specs.Source.{lists_each_once}
use Rattle.fs_model.specs.Execution.{Execution, pre_execution, IsExecution}
use Rattle.fs_model.specs.Witness.{Witness, IsOfWitness}
use Rattle.fs_model.specs.Reasons.{IsReason, IsOrder, AreRuns, HaveNames, LoadsRightly, KeepsRules}
use Rattle.fs_hart.specs.declared.trace.Trace.{Trace}
use Rattle.fs_hart.proofs.Forward.{traces_short}
use Rattle.fs_hart.specs.Runs.{registers_after}
use Rattle.fs_cand.specs.declared.candidate.Candidate.{Candidate}
use Rattle.fs_hart.specs.Steps.{steps_in}
use Rattle.fs_cand.specs.Candidates.{AreShort}
use Rattle.fs_model_axioms.specs.Final.{AreFinal}
use Rattle.fs_check.specs.declared.order.OrderVerdict.{OrderVerdict}
use Rattle.fs_check.specs.declared.order.OrderVerdict.TheVariants.{Yes, No}
use Rattle.fs_check.specs.declared.ordered.OrderedCandidate.{OrderedCandidate}
use Rattle.fs_cert_evidence.specs.declared.witness.WitnessFile.{WitnessFile}
use Rattle.fs_cert_evidence.specs.Shown.{ShowsAs}
use Rattle.fs_check.specs.Ordered.{execution_in}
use Rattle.fs_check.specs.Verdicts.{IsVerdict, IsWholeFile, IsFoundBy, IsFoundOrder, IsJudgement, KeepsAtomicity}
use Rattle.fs_cert_evidence.specs.WitnessFile.{KeepsWitness}
use Rattle.fs_check.specs.declared.runs.Runs.{Runs}
use Rattle.fs_check.specs.declared.runs.Runs.TheVariants.{Whole, Stopped}
use Rattle.fs_check.specs.inner.WitnessRuns.{AreWholeRuns, AreRunsOf}
use Rattle.fs_check.proofs.FirstStops.{all_whole}

-- the steps of a hart, in a list of runs
pub steps_at : (traces : List Trace) (hart : ℕ) (trace : Trace) → slice_get traces hart ≡ Some trace → steps_of (steps_in traces) hart ≡ trace.steps
steps_at traces hart trace e =
    get_or_from_slice_get (map (λ trace. trace.steps) traces) hart trace.steps [] (slice_get-map (λ trace. trace.steps) traces hart ∙ ap (option_map (λ trace. trace.steps)) e)

-- runs that a file makes
pub of_file : (t : Test) (file : WitnessFile) (w : Witness) (traces : List Trace) → IsWholeFile t file traces → KeepsWitness file w → AreRuns t w (steps_in traces)
of_file t file w traces whole keeps =
    subst (λ choices. AreRuns t (record { choices = choices; order = w.order }) (steps_in traces)) keeps.choices (all_whole t file.choices traces w.order whole.1 whole.2)

pub short : (t : Test) (file : WitnessFile) (traces : List Trace) → IsBounded t → IsWholeFile t file traces → AreShort traces
short t file traces bounded whole = All-from_slice traces (λ hart trace e.
    traces_short t hart trace.steps bounded (omega (arith, slice_get_within traces hart trace e, whole.1)) (whole.2 hart trace e).0.0)
  where
    All-from_slice : (xs : List Trace) → ((k : ℕ) (x : Trace) → slice_get xs k ≡ Some x → length x.steps ≤ 32) → AreShort xs
    All-from_slice xs each k d low = elim (slice_get_cases xs k).1 [
      | inl there ↦ subst (λ (x : Trace). length x.steps ≤ 32) (sym (get_or_from_slice_get xs k there.0 d there.2)) (each k there.0 there.2)
      | inr past ↦ absurd (omega (arith, low, past.0))
    ]

pub final : (t : Test) (file : WitnessFile) (traces : List Trace) → length t.starts ≡ length t.codes → IsWholeFile t file traces → AreFinal t traces
final t file traces starts whole = record {
  harts = whole.1 ∙ sym starts;
  registers = λ hart low. elim (slice_get_cases traces hart).1 [
    | inl there ↦
        get_or_from_slice_get (map (λ trace. trace.registers) traces) hart there.0.registers [] (slice_get-map (λ trace. trace.registers) traces hart ∙ ap (option_map (λ trace. trace.registers)) there.2)
        ∙ (whole.2 hart there.0 there.2).1 ∙ ap (registers_after t hart) (sym (steps_at traces hart there.0 there.2))
    | inr past ↦ absurd (omega (arith, low, past.0))
  ];
}

-- what the file and the order give
abbrev pub execution_of : List Trace → List ℕ → Execution
execution_of traces order = record { traces = steps_in traces; order = order }

module _ (t : Test) (p : List Entry) (file : WitnessFile) (w : Witness) (keeps : KeepsWitness file w) where
  module _ (traces : List Trace) (order : List ℕ) (whole : IsWholeFile t file traces) (named : HaveNames (pre_execution t (steps_in traces)) order w.order)
      (once : lists_each_once (pre_execution t (steps_in traces)) order ≡ true) where
    runs : AreRuns t w (steps_in traces)
    runs = of_file t file w traces whole keeps

    is_order : IsOrder t w (execution_of traces order)
    is_order = record { runs = runs; names = named; once = once }

    of_witness : IsOfWitness t w (execution_of traces order)
    of_witness = record { lists = ap length (sym keeps.choices) ∙ whole.0; harts = runs.harts; runs = runs.whole; order = named }

    module _ (loads : LoadsRightly (pre_execution t (steps_in traces)) order) (rules : KeepsRules (pre_execution t (steps_in traces)) p order)
        (atomic : KeepsAtomicity (pre_execution t (steps_in traces)) order) where
      is_execution : IsExecution t p (execution_of traces order)
      is_execution = record {
        harts = runs.harts;
        runs = λ hart low. (runs.whole hart low).0;
        axioms = record { once = once; preserved = rules; values = loads; atomic = atomic };
      }

  -- the verdict on runs with an order is the verdict on the witness
  pub decided : (o : OrderedCandidate) (verdict : OrderVerdict) → IsWholeFile t file o.candidate.traces → IsFoundOrder t o.candidate w (Some o.order.listed)
      → IsJudgement t p o verdict → IsVerdict t p w verdict
  decided o Yes whole found j = (
    execution_of o.candidate.traces o.order.listed,
    of_witness o.candidate.traces o.order.listed whole found.0 found.1,
    is_execution o.candidate.traces o.order.listed whole found.0 found.1 j.0.0 j.0.1 j.0.2,
    j.1,
  )
  decided o (No reason.Outcome) whole found j = (
    execution_of o.candidate.traces o.order.listed,
    is_order o.candidate.traces o.order.listed whole found.0 found.1,
    is_execution o.candidate.traces o.order.listed whole found.0 found.1 j.0.0 j.0.1 j.0.2,
    j.1,
  )
  decided o (No (reason.Load name)) whole found j = (execution_of o.candidate.traces o.order.listed, is_order o.candidate.traces o.order.listed whole found.0 found.1, j)
  decided o (No (reason.Rule n first second)) whole found j = (execution_of o.candidate.traces o.order.listed, is_order o.candidate.traces o.order.listed whole found.0 found.1, j)
  decided o (No (reason.Atomic load store)) whole found j = (execution_of o.candidate.traces o.order.listed, is_order o.candidate.traces o.order.listed whole found.0 found.1, j)
  decided o (No (reason.Choices hart)) whole found j = absurd j
  decided o (No (reason.Astray hart at)) whole found j = absurd j
  decided o (No reason.Order) whole found j = absurd j
  decided o (No reason.Answer) whole found j = absurd j
  decided o (No reason.Cycles) whole found j = absurd j
  decided o (No (reason.Cycle k)) whole found j = absurd j
  decided o (No reason.Tree) whole found j = absurd j
  decided o (No (reason.Node k)) whole found j = absurd j
  decided o (No (reason.Witness k)) whole found j = absurd j

  -- an order that keeps the axioms, and shows the outcome
  pub shown_as : (o : OrderedCandidate) → IsFoundBy t file w o → IsJudgement t p o Yes → ShowsAs t p w (execution_in o)
  shown_as o (whole, found) j = (
    of_witness o.candidate.traces o.order.listed whole found.0 found.1,
    record {
      execution = is_execution o.candidate.traces o.order.listed whole found.0 found.1 j.0.0 j.0.1 j.0.2;
      outcome = j.1;
    },
  )

  -- without an order that has all operations once
  pub unordered : (c : Candidate) → IsWholeFile t file c.traces → IsFoundOrder t c w None → IsVerdict t p w (No reason.Order)
  unordered c whole none = (steps_in c.traces, of_file t file w c.traces whole keeps, λ order o. none order o.names o.once)

-- ---- from the file's choices

pub whole_of : (t : Test) (file : WitnessFile) (w : Witness) (choices : List (List Choice)) (made : Runs) (traces : List Trace) (harts : ℕ) → choices ≡ file.choices → AreRunsOf t choices made
    → made ≡ Whole traces → KeepsWitness file w → length w.choices ≡ harts → harts ≡ length t.codes → IsWholeFile t file traces
whole_of t file w choices made traces harts e of is keeps count all =
    let runs = subst (AreRunsOf t choices) is of in
    (ap length keeps.choices ∙ count ∙ all, runs.0, subst (λ cs. AreWholeRuns t cs traces) e runs.1)

pub stopped_of : (t : Test) (p : List Entry) (file : WitnessFile) (w : Witness) (choices : List (List Choice)) (made : Runs) (why : Reason) → choices ≡ file.choices → AreRunsOf t choices made
    → made ≡ Stopped why → KeepsWitness file w → IsReason t p w why
stopped_of t p file w choices made why e of is keeps =
    let reasons = subst (AreRunsOf t choices) is of in
    subst (λ cs. IsReason t p (record { choices = cs; order = w.order }) why) (e ∙ keeps.choices) (reasons p w.order)

pub whole_made : (t : Test) (file : WitnessFile) (choices : List (List Choice)) (made : Runs) (traces : List Trace) → choices ≡ file.choices → AreRunsOf t choices made
    → made ≡ Whole traces → length choices ≡ length t.codes → IsWholeFile t file traces
whole_made t file choices made traces e of is all =
    let runs = subst (AreRunsOf t choices) is of in
    (ap length (sym e) ∙ all, runs.0, subst (λ cs. AreWholeRuns t cs traces) e runs.1)
