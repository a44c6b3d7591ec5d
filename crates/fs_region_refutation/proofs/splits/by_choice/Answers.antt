use Rattle.std.proofs.Common.{◌≡◌, ◌∙◌, ℕ, Bool, List, [], filter, map, get_or, ap}
use Rattle.std.specs.Prelude.{◌==◌}
use Rattle.std.specs.Borrow.{Bor}
use Rattle.fs_model.specs.declared.step.Step.{Step}
use Rattle.fs_cert_evidence.specs.Regions.{Region}
use Rattle.fs_cert_evidence.specs.Splits.{chosen_at, keep, rising}
use Rattle.fs_cert_evidence.specs.Trees.{is_open}
use Rattle.fs_region_refutation.specs.Alone.{RunOf}
use Rattle.fs_region_refutation.specs.Views.{region_of, list_at, runs_of}
use Rattle.fs_region_refutation.proofs.Lists.{made_and_kept, made_more, made_all}
use Rattle.fs_region_refutation.proofs.splits.by_choice.Goals as goal

pub loop-number-preserved : goal.loop-number-preserved
loop-number-preserved c =
    let t = c.args.basis.now in
    let old = c.args.region.now in
    let hart = c.args.name.hart in
    let at = c.args.name.at in
    let items = c.deref-number-items.result.now in
    let n = get_or items c.loop-number.number-index 0 in
    let chosen : ℕ → List Step → Bool = λ k run. chosen_at at run == k in
    let is : c.in_ok-kept.kept ≡ filter (λ run. chosen n run.now.steps) (list_at old hart) =
    c.in_ok-kept.ensures ∙ ap (filter (λ (run : Bor RunOf). chosen n run.now.steps)) c.runs-runs.ensures in (
      made_more (is_open t) (λ k. keep hart (chosen k) (region_of old)) [] items c.loop-number.number-index 0 _ _ (region_of c.in_ok-keep.field-0)
          c.loop-number-test.true c.loop-number.invariant.0 c.in_ok-add_open.ensures.regions (c.in_ok-keep.ensures.kept (chosen n) is),
      c.in_ok-add_open.ensures.of c.loop-number.invariant.1 (c.in_ok-keep.ensures.of (chosen n) is t c.requires),
    )

pub returns : goal.returns
returns c =
    let t = c.args.basis.now in
    let old = c.args.region.now in
    let hart = c.args.name.hart in
    let at = c.args.name.at in
    let split : ℕ → Region = λ k. keep hart (λ run. chosen_at at run == k) (region_of old) in
    record {
      regions = made_all (is_open t) split [] c.deref-number-items.result.now c.loop-number.number-index _ c.loop-number-test.false c.loop-number.invariant.0
          ∙ ap (made_and_kept (is_open t) split) (c.deref-number-items.ensures.value ∙ c.in_ok-numbers.ensures
          ∙ ap (λ (runs : List (Bor RunOf)). rising (map (chosen_at at) (runs_of runs))) c.runs-runs.ensures);
      of = c.loop-number.invariant.1;
    }
