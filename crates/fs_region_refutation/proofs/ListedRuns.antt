-- The listed runs of a hart are runs of it.
use Rattle.std.proofs.Common.{◌≡◌, ℕ, ◌<◌, Option, None, List, map, length, get_or, refl, subst}
use Rattle.std.specs.Prelude.{All}
use Rattle.std.proofs.lemmas.List.Elements.{All-map, All-same}
use Rattle.fs_model.specs.declared.step.Step.{Step}
use Rattle.fs_model.specs.declared.test.Test.{Test}
use Rattle.fs_model.specs.Choices.{choices_of}
use Rattle.fs_model.specs.Execution.{IsTrace}
use Rattle.fs_hart.specs.declared.trace.Trace.{Trace}
use Rattle.fs_hart.specs.Listing.{EndsSo, AreTraces, trace_at}
use Rattle.fs_region_refutation.specs.Alone.{IsRun}

whole : (t : Test) (hart : ℕ) (steps : List Step) (astray : Option ℕ) → astray ≡ None → EndsSo t hart (choices_of steps) steps astray → IsTrace t hart steps
whole t hart steps astray e ends = (subst (EndsSo t hart (choices_of steps) steps) e ends).0

pub are_runs : (t : Test) (hart : ℕ) (sets : List (List ℕ)) (traces : List Trace) → hart < length t.codes → AreTraces t hart sets traces → All (IsRun t hart) traces
are_runs t hart sets traces low is =
    All-same (IsRun t hart) traces (map (trace_at t hart) is.ends) is.runs
    (All-map (IsRun t hart) (trace_at t hart) is.ends (λ k d small.
    record {
      low = low;
      steps = whole t hart (get_or is.ends k d).steps (get_or is.ends k d).astray (is.whole k d small) (is.listing.different.each k d small).ends;
      registers = refl;
    }))
