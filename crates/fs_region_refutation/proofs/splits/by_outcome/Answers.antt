use Rattle.std.proofs.Common.{◌≡◌, ◌∙◌, Bool, List, filter, map, ap, subst, sym}
use Rattle.std.specs.Borrow.{Bor}
use Rattle.std.proofs.lemmas.List.Elements.{All-nil}
use Rattle.fs_model.specs.declared.step.Step.{Step}
use Rattle.fs_cert_evidence.specs.Splits.{keep}
use Rattle.fs_cert_evidence.specs.Trees.{is_open}
use Rattle.fs_region_refutation.specs.Alone.{RunOf}
use Rattle.fs_region_refutation.specs.Views.{region_of, regions_of, runs_of, list_at, AreOf, IsOf}
use Rattle.fs_region_refutation.specs.inner.Each.{may_all_with}
use Rattle.fs_region_refutation.proofs.Lists.{one_added}
use Rattle.fs_region_refutation.proofs.splits.by_outcome.Goals as goal

pub returns : goal.returns
returns c =
    let t = c.args.basis.now in
    let old = c.args.region.now in
    let region = region_of old in
    let test : List Step → Bool = may_all_with t c.args.hart region region.wanted in
    let is : c.in_ok-kept.kept ≡ filter (λ run. test run.now.steps) (list_at old c.args.hart) =
    c.in_ok-kept.ensures test (c.deref.ensures.value ∙ c.in_ok-marks.ensures ∙ ap (λ (runs : List (Bor RunOf)). map test (runs_of runs)) (sym c.runs.ensures))
    ∙ ap (filter (λ (run : Bor RunOf). test run.now.steps)) c.runs.ensures in
    record {
      regions = one_added (is_open t) _ _ (region_of c.in_ok-keep.field-0) (keep c.args.hart test region)
          (ap regions_of c.new-left.ensures.items) c.in_ok-add_open.ensures.regions (c.in_ok-keep.ensures.kept test is);
      of = c.in_ok-add_open.ensures.of (subst (AreOf t) (sym c.new-left.ensures.items) (All-nil (IsOf t)))
          (c.in_ok-keep.ensures.of test is t c.requires);
    }
