-- How many operations whole runs have.
use Rattle.std.proofs.Common.{◌≡◌, ◌<◌, ◌≤◌, List, [], length, All}
use Rattle.std.proofs.Common.{subst, ◌∙◌, arith}
use Rattle.std.proofs.lemmas.List.{length-map, get_or-map}
use Rattle.fs_model.specs.declared.test.Test.{Test}
use Rattle.fs_model.specs.Test.{IsBounded}
use Rattle.fs_model.specs.declared.step.Step.{Step}
use Rattle.fs_model.specs.Operations.{accesses, steps_of}
use Rattle.fs_model.specs.Execution.{pre_execution}
use Rattle.fs_hart.specs.declared.trace.Trace.{Trace}
use Rattle.fs_hart.proofs.Few.{few_accesses}
use Rattle.fs_hart.proofs.Forward.{traces_short}
use Rattle.fs_hart.specs.Steps.{steps_in}
use Rattle.fs_model_brute_force.specs.Allowing.{AreWhole}

abbrev pub AreShort : List Trace → Type 0
AreShort traces = All (λ trace. length trace.steps ≤ 32) traces

pub harts_of : (t : Test) (traces : List Trace) → IsBounded t → AreWhole t traces → length traces ≡ length t.codes
harts_of t traces bounded whole = whole.last.harts ∙ bounded.starts

pub short : (t : Test) (traces : List Trace) → IsBounded t → AreWhole t traces → AreShort traces
short t traces bounded whole hart d low =
    let there : hart < length t.codes = omega (arith, low, harts_of t traces bounded whole) in
    subst (λ (steps : List Step). length steps ≤ 32) (get_or-map (λ (trace : Trace). trace.steps) traces hart d [] low)
    (traces_short t hart (steps_of (steps_in traces) hart) bounded there (whole.runs hart there))

-- a bounded test has few operations
pub few : (t : Test) (traces : List Trace) → IsBounded t → AreWhole t traces
    → length (accesses (pre_execution t (steps_in traces))) ≤ 256
few t traces bounded whole =
    let harts : length (steps_in traces) ≡ length t.codes =
    length-map traces (λ (trace : Trace). trace.steps) ∙ harts_of t traces bounded whole in
    omega (arith, few_accesses t (steps_in traces) bounded harts whole.runs)
