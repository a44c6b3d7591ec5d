use Rattle.std.proofs.Common.{◌≡◌, ◌∙◌, ◌+◌, Bool, List, [], ◌++◌, Some, option_map, length, refl, filter, map, take, drop, ap, sym}
use Rattle.std.specs.Prelude.{slice_get}
use Rattle.std.proofs.lemmas.Option.{slice_get-map, slice_get_read}
use Rattle.fs_model.specs.Condition.{Condition}
use Rattle.fs_cert_evidence.specs.Regions.{Region}
use Rattle.fs_cert_evidence.specs.Splits.{with_wanted, ways_of}
use Rattle.fs_cert_evidence.specs.Trees.{is_open}
use Rattle.fs_region_refutation.specs.declared.region.Wanted.{Wanted}
use Rattle.fs_region_refutation.specs.Views.{region_of, wanted_of, all_wanted}
use Rattle.fs_region_refutation.proofs.Lists.{made_more, made_all, map_seen, parts_seen}
use Rattle.fs_region_refutation.proofs.splits.by_cases.Goals as goal

pub loop-way-preserved : goal.loop-way-preserved
loop-way-preserved c =
    let t = c.args.basis.now in
    let k = c.args.number in
    let region = region_of c.args.region.now in
    let split : List Wanted → Region = λ way. with_wanted (take k region.wanted ++ all_wanted way ++ drop (k + 1) region.wanted) region in (
      made_more (is_open t) split [] c.deref-way-items.result.now c.loop-way.way-index c.way-item.result _ _ (region_of c.in_ok-with_wanted.field-0)
          c.loop-way-test.true c.loop-way.invariant.0 c.in_ok-add_open.ensures.regions
          (c.in_ok-with_wanted.ensures.region
          ∙ ap (λ wanted. with_wanted wanted region) (ap all_wanted c.in_ok-others.ensures ∙ parts_seen wanted_of k c.as_slice-wanted.result.now c.as_slice.result.now
          ∙ ap (λ ws. take k (all_wanted ws) ++ all_wanted c.as_slice.result.now ++ drop (k + 1) (all_wanted ws)) (c.as_slice-wanted.ensures ∙ c.deref.ensures)
          ∙ ap (λ way. take k region.wanted ++ all_wanted way ++ drop (k + 1) region.wanted) (c.as_slice.ensures ∙ c.way-item.is))),
      c.in_ok-add_open.ensures.of c.loop-way.invariant.1 (c.in_ok-with_wanted.ensures.of t c.requires),
    )

pub returns : goal.returns
returns c =
    let t = c.args.basis.now in
    let k = c.args.number in
    let region = region_of c.args.region.now in
    let part : List (Condition × Bool) → Region = λ way. with_wanted (take k region.wanted ++ way ++ drop (k + 1) region.wanted) region in
    let items = c.deref-way-items.result.now in
    let ws = c.as_slice-wanted.result.now in
    let found = c.in-Some.ensures.lookup in
    let there : slice_get region.wanted k ≡ Some (wanted_of c.in-Some.parted.now) =
    ap (λ (all : List Wanted). slice_get (all_wanted all) k) (sym (c.as_slice-wanted.ensures ∙ c.deref.ensures)) ∙ slice_get-map wanted_of ws k
    ∙ ap (option_map wanted_of) (slice_get_read ws (length ws) k c.in-Some.parted.now refl found.3.0 found.1) in
    record {
      regions = made_all (is_open t) (λ way. part (all_wanted way)) [] items c.loop-way.way-index _ c.loop-way-test.false c.loop-way.invariant.0
          ∙ ap (filter (is_open t)) (sym (map_seen all_wanted part items)
          ∙ ap (map part) (ap (map all_wanted) c.deref-way-items.ensures.value ∙ c.in_ok-ways.ensures ∙ ap ways_of (sym there)));
      of = c.loop-way.invariant.1;
    }
