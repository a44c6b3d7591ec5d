-- What is found in runs with an order.
use Rattle.std.proofs.Common.{◌≡◌, ℕ, ◌<◌, ◌≤◌, Bool, true, false, Option, None, Some, is_some, List, [], length, map, refl, sym, ◌∙◌, ap, subst, arith}
use Rattle.std.specs.Prelude.{IfNone, ◌==◌, ◌&&◌}
use Rattle.std.specs.List.{list_all}
use Rattle.std.proofs.Math.ListN.{get_or}
use Rattle.std.proofs.lemmas.Bool.{both_ways}
use Rattle.std.proofs.lemmas.List.{get_or_default, length-map}
use Rattle.fs_kinds.specs.declared.placement.Entry.{Entry}
use Rattle.fs_kinds.specs.declared.reason.OperationName.{OperationName as Name}
use Rattle.fs_kinds.specs.declared.reason.Reason.{Reason}
use Rattle.fs_kinds.specs.declared.reason.Reason.TheVariants as reason
use Rattle.fs_model.specs.declared.test.Test.{Test}
use Rattle.fs_model.specs.Test.{IsBounded}
use Rattle.fs_model.specs.declared.operation.Operation.{Operation}
use Rattle.fs_model.specs.declared.step.Step.{Step}
use Rattle.fs_model.specs.Numbers.{has_number, numbers_below}
use Rattle.fs_model.specs.Operations.{PreExecution, accesses, operations, operation, nothing}
use Rattle.fs_model.specs.Source.{gmo, lists_each_once}
use Rattle.fs_model.specs.Shows.{has_outcome}
use Rattle.fs_hart.specs.declared.trace.Trace.{Trace}
use Rattle.fs_model.specs.Execution.{initial_words, pre_execution}
use Rattle.fs_model.specs.Witness.{Witness, name_of}
use Rattle.fs_model.specs.Reasons.{LoadsRightly, KeepsRules, HaveNames}
use Rattle.fs_cand.specs.declared.candidate.Candidate.{Candidate}
use Rattle.fs_hart.specs.Steps.{steps_in}
use Rattle.fs_cand.specs.Candidates.{runs_of, IsMade}
use Rattle.fs_check.specs.declared.order.OrderVerdict.TheVariants.{No}
use Rattle.fs_check.specs.declared.ordered.OrderedCandidate.{OrderedCandidate}
use Rattle.fs_cert_evidence.specs.declared.witness.WitnessFile.{WitnessFile}
use Rattle.fs_cand.specs.inner.NamedOrder.{name_in, numbers_of}
use Rattle.fs_check.specs.Ordered.{IsOrdered, runs_in}
use Rattle.fs_check.specs.Verdicts.{IsWholeFile, IsFoundOrder, IsArranged, IsJudgement, IsLoadReason, IsRuleReason, IsAtomicReason}
use Rattle.fs_cert_evidence.specs.WitnessFile.{KeepsWitness, in_range}
use Rattle.fs_model.proofs.HartOperations.{has_name}
use Rattle.fs_hart.proofs.Few.{few_operations}
use Rattle.fs_check.proofs.FirstStops.{all_whole}
use Rattle.fs_cand.proofs.NamedOrder.{name_is, found_names, found_all, names_say}
use Rattle.fs_check.proofs.Orderings.{in_operations, of_runs}
use Rattle.fs_cand.proofs.RunNames.{known, ranged}
use Rattle.fs_check.proofs.Verdicts.{of_file}

pub if_none : {A : Type 0} (result : Option A) (P : Type 0) → P → IfNone result P
if_none None P h = h
if_none (Some a) P h = tt

-- an operation of the harts has a name
pub named_there : (t : Test) (o : OrderedCandidate) (h : IsOrdered t o) (a : ℕ) → a < length (accesses (runs_in t o)) → (slice : List Operation) (op : Operation) (traces : List (List Step)) (name : Option Name)
    → slice ≡ o.candidate.operations → get_or slice a op ≡ op → traces ≡ steps_in o.candidate.traces → name ≡ name_in traces op → (is_some name ≡ true) × (name_of (runs_in t o) a ≡ name)
named_there t o h a low slice op traces name e k r n =
    let there = has_name (runs_in t o) a low in
    let long : a < length slice = omega (arith, in_operations t o h a low, ap length e) in
    let same : operation (runs_in t o) a ≡ op =
    sym (ap (λ os. get_or os a nothing) (e ∙ h.made.operations)) ∙ get_or_default slice a nothing op long ∙ k in
    let whole : name_of (runs_in t o) a ≡ name =
    name_is (runs_in t o) a ∙ ap (name_in (steps_in o.candidate.traces)) same ∙ ap (λ ts. name_in ts op) (sym r) ∙ sym n in
    (ap is_some (sym whole ∙ there.1), whole)

-- ---- from reasons to what is said

pub of_load : (t : Test) (p : List Entry) (o : OrderedCandidate) (why : Reason) → IsLoadReason (runs_in t o) o.order.listed why → IsJudgement t p o (No why)
of_load t p o (reason.Load name) h = h
of_load t p o (reason.Choices hart) h = absurd h
of_load t p o (reason.Astray hart at) h = absurd h
of_load t p o reason.Order h = absurd h
of_load t p o (reason.Rule n first second) h = absurd h
of_load t p o (reason.Atomic load store) h = absurd h
of_load t p o reason.Outcome h = absurd h
of_load t p o reason.Answer h = absurd h
of_load t p o reason.Cycles h = absurd h
of_load t p o (reason.Cycle k) h = absurd h
of_load t p o reason.Tree h = absurd h
of_load t p o (reason.Node k) h = absurd h
of_load t p o (reason.Witness k) h = absurd h

pub of_rule : (t : Test) (p : List Entry) (o : OrderedCandidate) (why : Reason) → LoadsRightly (runs_in t o) o.order.listed → IsRuleReason (runs_in t o) p o.order.listed why → IsJudgement t p o (No why)
of_rule t p o (reason.Rule n first second) loads h = (loads, h)
of_rule t p o (reason.Load name) loads h = absurd h
of_rule t p o (reason.Choices hart) loads h = absurd h
of_rule t p o (reason.Astray hart at) loads h = absurd h
of_rule t p o reason.Order loads h = absurd h
of_rule t p o (reason.Atomic load store) loads h = absurd h
of_rule t p o reason.Outcome loads h = absurd h
of_rule t p o reason.Answer loads h = absurd h
of_rule t p o reason.Cycles loads h = absurd h
of_rule t p o (reason.Cycle k) loads h = absurd h
of_rule t p o reason.Tree loads h = absurd h
of_rule t p o (reason.Node k) loads h = absurd h
of_rule t p o (reason.Witness k) loads h = absurd h

pub of_atomic : (t : Test) (p : List Entry) (o : OrderedCandidate) (why : Reason) → LoadsRightly (runs_in t o) o.order.listed → KeepsRules (runs_in t o) p o.order.listed
    → IsAtomicReason (runs_in t o) o.order.listed why → IsJudgement t p o (No why)
of_atomic t p o (reason.Atomic load store) loads rules h = (loads, rules, h)
of_atomic t p o (reason.Load name) loads rules h = absurd h
of_atomic t p o (reason.Rule n first second) loads rules h = absurd h
of_atomic t p o (reason.Choices hart) loads rules h = absurd h
of_atomic t p o (reason.Astray hart at) loads rules h = absurd h
of_atomic t p o reason.Order loads rules h = absurd h
of_atomic t p o reason.Outcome loads rules h = absurd h
of_atomic t p o reason.Answer loads rules h = absurd h
of_atomic t p o reason.Cycles loads rules h = absurd h
of_atomic t p o (reason.Cycle k) loads rules h = absurd h
of_atomic t p o reason.Tree loads rules h = absurd h
of_atomic t p o (reason.Node k) loads rules h = absurd h
of_atomic t p o (reason.Witness k) loads rules h = absurd h

-- ---- the order that the file names
module _ (t : Test) (file : WitnessFile) (c : Candidate) (bounded : IsBounded t) (made : IsMade (initial_words t) c) (whole : IsWholeFile t file c.traces)
    (names : List (Option Name)) (wanted : List (Option Name)) (all : List Operation) (traces : List (List Step))
    (named : names ≡ map (name_in traces) all) (runs : traces ≡ steps_in c.traces) (ops : all ≡ c.operations) (file_order : wanted ≡ file.order) where
  abbrev x : PreExecution
  x = runs_of c (initial_words t)

  names_are : names ≡ map (name_in x.traces) (operations x)
  names_are = named ∙ ap (λ ts. map (name_in ts) all) runs ∙ ap (map (name_in x.traces)) (ops ∙ made.operations)

  module _ (w : Witness) (keeps : KeepsWitness file w) where
    same : (found : Option (List ℕ)) → found ≡ numbers_of names wanted → numbers_of (map (name_in x.traces) (operations x)) (map in_range w.order) ≡ found
    same found e = ap (λ ns. numbers_of ns (map in_range w.order)) (sym names_are) ∙ ap (numbers_of names) (sym (file_order ∙ keeps.order)) ∙ sym e

    pub order_found : (order : List ℕ) → Some order ≡ numbers_of names wanted → HaveNames x order w.order
    order_found order e = found_names x w.order order (same (Some order) e)

    -- a name that no operation has
    pub no_name : None ≡ numbers_of names wanted → IsFoundOrder t c w None
    no_name e order have once =
        let found = found_all x w.order order (ranged t w (steps_in c.traces) (of_file t file w c.traces whole keeps) bounded) have in
        let both : None ≡ Some found.0 = sym (same None e) ∙ found.1 in
        cc

    -- names that don't list each operation once
    pub not_once : (listed : List ℕ) → Some listed ≡ numbers_of names wanted → lists_each_once x listed ≡ false → IsFoundOrder t c w None
    not_once listed e fails order have once =
        let one : order ≡ listed = names_say x w.order order listed (known t w (steps_in c.traces) (of_file t file w c.traces whole keeps) bounded.forward) have (order_found listed e) in
        both_ways _ fails (subst (λ o. lists_each_once x o ≡ true) one once)

-- ---- the outcome
module _ (t : Test) (o : OrderedCandidate) (h : IsOrdered t o) where
  pub outcome_is : (traces : List Trace) (ops : List Operation) (order : List ℕ) (result : Bool) → traces ≡ o.candidate.traces → ops ≡ o.candidate.operations
      → ((x : PreExecution) → o.order.operations ≡ operations x → order ≡ gmo x o.order.listed)
      → ((listed : List ℕ) → ops ≡ operations (pre_execution t (steps_in traces)) → order ≡ gmo (pre_execution t (steps_in traces)) listed
      → result ≡ has_outcome t (record { traces = steps_in traces; order = listed }))
      → result ≡ has_outcome t (record { traces = steps_in o.candidate.traces; order = o.order.listed })
  outcome_is traces ops order result e k g f =
      f o.order.listed
      (k ∙ h.made.operations ∙ ap (λ ts. operations (pre_execution t (steps_in ts))) (sym e))
      (g (runs_in t o) (of_runs t o h) ∙ ap (λ ts. gmo (pre_execution t (steps_in ts)) o.order.listed) (sym e))
      ∙ ap (λ ts. has_outcome t (record { traces = steps_in ts; order = o.order.listed })) e

-- ---- few operations, each listed once

pub few_made : (t : Test) (file : WitnessFile) (c : Candidate) → IsBounded t → IsMade (initial_words t) c → IsWholeFile t file c.traces → length c.operations ≤ 256
few_made t file c bounded made whole =
    let runs = all_whole t file.choices c.traces [] whole.1 whole.2 in
    let few = few_operations t (steps_in c.traces) bounded runs.harts (λ hart low. (runs.whole hart low).0) in
    omega (arith, few, ap length made.operations)

pub few_names : (names : List (Option Name)) (traces : List (List Step)) (all ops : List Operation) → names ≡ map (name_in traces) all → all ≡ ops → length ops ≤ 256 → length names ≤ 256
few_names names traces all ops e k few = omega (arith, few, ap length e, length-map all (name_in traces), ap length k)

pub once_is : (x : PreExecution) (listed order : List ℕ) (count : ℕ) (result : Bool)
    → result ≡ ((length order == count) && list_all (has_number order) (numbers_below count)) → count ≡ length (accesses x) → order ≡ listed → lists_each_once x listed ≡ result
once_is x listed order count result e k l = sym (e ∙ rw (k, l) refl)

-- the order found is that of the runs as arranged
pub found_moved : (t : Test) (c : Candidate) (o : OrderedCandidate) (w : Witness) (listed : List ℕ) → IsArranged c listed o → IsFoundOrder t c w (Some listed) → IsFoundOrder t o.candidate w (Some o.order.listed)
found_moved t c o w listed same h =
    subst (λ ts. HaveNames (pre_execution t (steps_in ts)) o.order.listed w.order × (lists_each_once (pre_execution t (steps_in ts)) o.order.listed ≡ true)) (sym same.traces)
    (subst (λ l. HaveNames (pre_execution t (steps_in c.traces)) l w.order × (lists_each_once (pre_execution t (steps_in c.traces)) l ≡ true)) (sym same.order) h)
