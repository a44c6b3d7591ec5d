use Rattle.std.proofs.Common.{◌≡◌, Bool, List, filter, map, take}
use Rattle.fs_model.specs.declared.step.Step.{Step}
use Rattle.fs_region_refutation.specs.Views.{runs_of}
use Rattle.fs_region_refutation.proofs.splits.marked.Given as goal

abbrev pub invariant-loop-number : goal.invariant-loop-number
invariant-loop-number l =
    (test : List Step → Bool) → l.marks ≡ map test (runs_of l.runs) → l.kept.items ≡ filter (λ run. test run.now.steps) (take l.number l.runs)
