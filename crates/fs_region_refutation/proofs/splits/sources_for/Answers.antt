use Rattle.std.proofs.Common.{◌∙◌, [], ◌∷◌, ◌++◌, filter, map, ap, sym}
use Rattle.std.proofs.lemmas.List.{take_all}
use Rattle.std.proofs.lemmas.List.Elements.{filter-append}
use Rattle.fs_cert_evidence.specs.Regions.{Initial, From, names}
use Rattle.fs_cert_evidence.specs.Splits.{is_left, can_be_source}
use Rattle.fs_region_refutation.specs.Alone.{source_of}
use Rattle.fs_region_refutation.specs.Views.{known_source}
use Rattle.fs_region_refutation.proofs.Lists.{kept_made_kept, kept_joins, added, none_added}
use Rattle.fs_region_refutation.proofs.splits.sources_for.Goals as goal

pub loop-store-init : goal.loop-store-init
loop-store-init c =
    let p = is_left (known_source c.source-known.result) in
    c.in_ok-add_left.ensures
    ∙ ap (λ sources. map source_of sources ++ filter p (Initial ∷ [])) c.new-sources.ensures.items
    ∙ none_added (filter p (Initial ∷ []))

pub loop-store-preserved : goal.loop-store-preserved
loop-store-preserved c =
    let p = is_left (known_source c.source-known.result) in
    let q = can_be_source c.args.load in
    added (kept_made_kept p From q) (kept_joins p From q) (filter p (Initial ∷ [])) c.names-store-items.result.now c.loop-store.store-index _
    _ _ c.loop-store-test.true c.loop-store.invariant
    c.in_ok-add_store.ensures

pub returns : goal.returns
returns c =
    let p = is_left (known_source c.source-known.result) in
    let q = can_be_source c.args.load in
    c.loop-store.invariant
    ∙ ap (λ ns. filter p (Initial ∷ []) ++ kept_made_kept p From q ns)
    (take_all c.loop-store.store-index c.names-store-items.result.now c.loop-store-test.false ∙ c.names-store-items.ensures)
    ∙ sym (filter-append p (Initial ∷ []) (map From (filter q (names c.args.basis.now))))
    ∙ ap (λ known. filter (is_left known) (Initial ∷ map From (filter q (names c.args.basis.now)))) c.source-known.ensures
