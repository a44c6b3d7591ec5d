-- Whole runs of a test's harts with an order that obeys the axioms are an execution.
use Rattle.std.proofs.Common.{◌≡◌, ◌∙◌, ℕ, zero, suc, ◌<◌, ◌≤◌, Bool, true, false, List, [], ◌∷◌, length, refl, sym, subst, arith}
use Rattle.std.specs.List.{slice_index_or}
use Rattle.std.proofs.lemmas.Bool.{false≢true}
use Rattle.std.proofs.lemmas.List.{length-map}
use Rattle.fs_kinds.specs.declared.placement.Entry.{Entry}
use Rattle.fs_model.specs.declared.test.Test.{Test}
use Rattle.fs_model.specs.Test.{IsBounded}
use Rattle.fs_model.specs.Operations.{operations, steps_of}
use Rattle.fs_model.specs.Execution.{IsTrace, ObeysAxioms}
use Rattle.fs_model.specs.Shows.{has_outcome}
use Rattle.fs_hart.specs.declared.trace.Trace.{Trace}
use Rattle.fs_hart.proofs.Forward.{traces_short}
use Rattle.fs_hart.proofs.Few.{few_operations}
use Rattle.fs_model_axioms.specs.Final.{AreFinal}
use Rattle.fs_hart.specs.Steps.{steps_in}
use Rattle.fs_model_brute_force.specs.Whole.{pre_execution_of}
use Rattle.fs_model_brute_force.specs.Decisions.{Decides, ShowsOutcome}

steps_at : (traces : List Trace) (k : ℕ) (d : Trace) → k < length traces
    → steps_of (steps_in traces) k ≡ (slice_index_or traces k d).steps
steps_at [] k d low = absurd (omega (arith, low))
steps_at (trace ∷ traces) zero d low = refl
steps_at (trace ∷ traces) (suc k) d low = steps_at traces k d (omega (arith, low))

-- what is decided with yes is so
pub is_so : (P : Type 0) (answer : Bool) → answer ≡ true → Decides answer P → P
is_so P true e h = h
is_so P false e h = absurd (false≢true e)

-- whole runs of the test's harts
module _ (t : Test) (traces : List Trace) (bounded : IsBounded t) (final : AreFinal t traces)
    (runs : (hart : ℕ) → hart < length t.codes → IsTrace t hart (steps_of (steps_in traces) hart)) where
  harts : length traces ≡ length t.codes
  harts = final.harts ∙ bounded.starts

  pub all_short : (k : ℕ) (d : Trace) → k < length traces → length (slice_index_or traces k d).steps ≤ 32
  all_short k d low =
      let there : k < length t.codes = omega (arith, low, harts) in
      traces_short t k (slice_index_or traces k d).steps bounded there
      (subst (λ (steps : List _). IsTrace t k steps) (steps_at traces k d low) (runs k there))

  lists : length (steps_in traces) ≡ length t.codes
  lists = length-map traces (λ trace. trace.steps) ∙ harts

  pub few : length (operations (pre_execution_of t traces)) ≤ 256
  few = let most = few_operations t (steps_in traces) bounded lists runs in omega (arith, most)

  -- an order of theirs obeys the axioms: whether they show the outcome decides
  pub shown : (p : List Entry) (order : List ℕ) (answer : Bool) → ObeysAxioms (pre_execution_of t traces) p order
      → answer ≡ has_outcome t (record { traces = steps_in traces; order = order })
      → Decides answer (ShowsOutcome t p (record { traces = steps_in traces; order = order }))
  shown p order true axioms e = (record { harts = lists; runs = runs; axioms = axioms }, sym e)
  shown p order false axioms e = λ h. false≢true (e ∙ h.1)
