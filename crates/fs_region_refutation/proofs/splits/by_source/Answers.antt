use Rattle.std.proofs.Common.{◌∙◌, [], ◌∷◌, filter, map, refl, ap, subst, sym}
use Rattle.std.proofs.lemmas.List.Elements.{All-nil, filter-append}
use Rattle.fs_cert_evidence.specs.Regions.{Region}
use Rattle.fs_cert_evidence.specs.Splits.{from_nothing, from_source}
use Rattle.fs_cert_evidence.specs.Trees.{is_open}
use Rattle.fs_region_refutation.specs.Alone.{source_of}
use Rattle.fs_region_refutation.specs.declared.source.Source.{Source}
use Rattle.fs_region_refutation.specs.Views.{region_of, regions_of, AreOf, IsOf}
use Rattle.fs_region_refutation.proofs.Lists.{made_more, made_all, map_seen, one_added, none_added}
use Rattle.fs_region_refutation.proofs.splits.by_source.Goals as goal

pub loop-source-init : goal.loop-source-init
loop-source-init c =
    let t = c.args.basis.now in
    let first = from_nothing c.args.load (region_of c.args.region.now) in (
      one_added (is_open t) _ _ (region_of c.in_ok-from_nothing.field-0) first (ap regions_of c.new-left.ensures.items)
          c.in_ok-add_open.ensures.regions c.in_ok-from_nothing.ensures.region
          ∙ none_added (filter (is_open t) (first ∷ [])),
      c.in_ok-add_open.ensures.of (subst (AreOf t) (sym c.new-left.ensures.items) (All-nil (IsOf t))) (c.in_ok-from_nothing.ensures.of t c.requires),
    )

pub loop-source-preserved : goal.loop-source-preserved
loop-source-preserved c =
    let t = c.args.basis.now in
    let region = region_of c.args.region.now in
    let split : Source → Region = λ source. from_source t c.args.load region (source_of source) in (
      made_more (is_open t) split (filter (is_open t) (from_nothing c.args.load region ∷ [])) c.deref-source-items.result.now c.loop-source.source-index
          _ _ _ _ c.loop-source-test.true c.loop-source.invariant.0
          (c.in_ok-add_found.ensures.regions _ c.in_ok-found.ensures.some c.in_ok-found.ensures.none) refl,
      c.in_ok-add_found.ensures.of c.loop-source.invariant.1 (c.in_ok-found.ensures.of t c.requires),
    )

pub returns : goal.returns
returns c =
    let t = c.args.basis.now in
    let region = region_of c.args.region.now in
    let p = is_open t in
    let split : Source → Region = λ source. from_source t c.args.load region (source_of source) in
    let first = from_nothing c.args.load region in
    let items = c.deref-source-items.result.now in
    record {
      regions = made_all p split (filter p (first ∷ [])) items c.loop-source.source-index _ c.loop-source-test.false c.loop-source.invariant.0
          ∙ sym (filter-append p (first ∷ []) (map split items))
          ∙ ap (λ regions. filter p (first ∷ regions)) (sym (map_seen source_of (from_source t c.args.load region) items)
          ∙ ap (map (from_source t c.args.load region)) (ap (map source_of) c.deref-source-items.ensures.value ∙ c.in_ok-sources.ensures));
      of = c.loop-source.invariant.1;
    }
