use Rattle.std.proofs.Common.{◌≡◌, ◌∙◌, Bool, List, filter, ap}
use Rattle.fs_model.specs.declared.step.Step.{Step}
use Rattle.fs_cert_evidence.specs.Regions.{Initial}
use Rattle.fs_cert_evidence.specs.Splits.{agrees_initially, with_source}
use Rattle.fs_region_refutation.specs.Views.{list_at}
use Rattle.fs_region_refutation.proofs.splits.from_initial.Goals as goal

pub returns : goal.returns
returns c =
    let test : List Step → Bool = agrees_initially c.args.basis.now c.args.load in
    let is : c.in_ok-kept.kept ≡ filter (λ run. test run.now.steps) (list_at c.args.region.now c.args.load.hart) =
    c.in_ok-kept.ensures ∙ ap (filter (λ run. test run.now.steps)) c.runs.ensures in
    record {
      region = c.in_ok-sourced.ensures.region ∙ ap (with_source c.args.load Initial) (c.in_ok-smaller.ensures.kept test is);
      of = λ t of. c.in_ok-sourced.ensures.of t (c.in_ok-smaller.ensures.of test is t of);
    }
