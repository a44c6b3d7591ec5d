use Rattle.std.proofs.Common.{◌≡◌, ◌∙◌, Bool, List, filter, ap}
use Rattle.fs_model.specs.declared.step.Step.{Step}
use Rattle.fs_cert_evidence.specs.Splits.{agree}
use Rattle.fs_region_refutation.specs.Views.{list_at}
use Rattle.fs_region_refutation.proofs.splits.keep_within.Goals as goal

pub returns : goal.returns
returns c =
    let test : List Step → Bool = λ run. agree run c.args.load run c.args.store in
    let is : c.in_ok-kept.kept ≡ filter (λ run. test run.now.steps) (list_at c.args.region.now c.args.load.hart) =
    c.in_ok-kept.ensures ∙ ap (filter (λ run. test run.now.steps)) c.runs.ensures in
    record { region = c.in_ok-smaller.ensures.kept test is; of = c.in_ok-smaller.ensures.of test is }
