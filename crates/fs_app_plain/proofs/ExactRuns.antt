-- Listed runs that are exact, and the test that they are all of.
use Rattle.std.proofs.Common.{◌≡◌, ℕ, ◌<◌, ◌≤◌, List, [], All, length, arith}
use Rattle.std.specs.List.{Contains, slice_index_or}
use Rattle.std.proofs.lemmas.List.Elements.{All-map, All-contains}
use Rattle.fs_hart.specs.declared.trace.Trace.{Trace}
use Rattle.fs_hart.specs.Steps.{steps_in}
use Rattle.fs_model.specs.declared.step.Step.{Step}
use Rattle.fs_model.specs.declared.test.Test.{Test}
use Rattle.fs_model.specs.Execution.{registers_of}
use Rattle.fs_model.specs.Trace.{start_with}
use Rattle.fs_model.specs.Values.{HasAllRuns}
use Rattle.fs_app_plain.specs.Wide.{AreExact, IsExactTest}
use Rattle.fs_values.specs.AllRuns.{runs_in}

abbrev pub AreExactRuns : Test → ℕ → List Trace → Type 0
AreExactRuns t hart traces = All (λ trace. AreExact (start_with (registers_of t hart)) trace.steps) traces

-- those of the first harts
abbrev pub AreExactBefore : Test → List (List Trace) → ℕ → Type 0
AreExactBefore t lists n = (hart : ℕ) → hart < n → AreExactRuns t hart (slice_index_or lists hart [])

exact_steps : (t : Test) (hart : ℕ) (traces : List Trace) (steps : List Step) → AreExactRuns t hart traces
    → Contains (steps_in traces) steps → AreExact (start_with (registers_of t hart)) steps
exact_steps t hart traces steps exact has =
    let P : List Step → Type 0 = AreExact (start_with (registers_of t hart)) in
    All-contains P (steps_in traces) steps (All-map P (λ trace. trace.steps) traces exact) has

-- a test is exact where all its runs are
pub exact_test : (t : Test) (lists : List (List Trace)) (n : ℕ) → length lists ≡ length t.codes
    → HasAllRuns t (runs_in lists) → length lists ≤ n → AreExactBefore t lists n → IsExactTest t
exact_test t lists n long all far exact hart steps inside trace loads =
    let before : hart < n = omega (arith, long, inside, far) in
    let listed : Contains (runs_in lists hart) steps = ((all hart inside).exact steps).1 (trace, loads) in
    exact_steps t hart (slice_index_or lists hart []) steps (exact hart before) listed
