use Rattle.std.proofs.Common.{◌∙◌, Bool, true, List, map, ap}
use Rattle.std.specs.List.{zip}
use Rattle.fs_region_refutation.specs.declared.region.Wanted.{Wanted}
use Rattle.fs_region_refutation.specs.Views.{region_of, list_at, all_wanted}
use Rattle.fs_region_refutation.specs.inner.Each.{joins, may_all_with}
use Rattle.fs_region_refutation.proofs.Each.{same_seen, may_more, may_all}
use Rattle.fs_region_refutation.proofs.endings.may_all_under.Goals as goal

pub loop-wanted-init : goal.loop-wanted-init
loop-wanted-init c =
    c.in_ok-marks.ensures ∙ same_seen true c.runs.result.now (list_at c.args.region.now c.args.names.now.hart) c.runs.ensures

pub loop-wanted-preserved : goal.loop-wanted-preserved
loop-wanted-preserved c =
    let t = c.args.basis.now in
    let region = region_of c.args.region.now in
    let wanted = c.wanted-item.result in
    let join : List Bool → List Bool → List Bool = λ first second. map (λ pair. joins true pair.0 pair.1) (zip first second) in
    may_more t c.args.names.now.hart region c.deref-wanted-items.result.now c.loop-wanted.wanted-index wanted c.loop-wanted.marks.items c.in_ok-more.more.items _
    c.loop-wanted-test.true c.wanted-item.is c.loop-wanted.invariant
    c.in_ok-more.ensures
    (c.in_ok-marks-2.ensures
    ∙ ap (λ marks. join marks c.deref-in-loop-wanted-2.result.now) c.deref-in-loop-wanted.ensures.value
    ∙ ap (join c.loop-wanted.marks.items) c.deref-in-loop-wanted-2.ensures.value)

pub returns : goal.returns
returns c =
    let t = c.args.basis.now in
    let region = region_of c.args.region.now in
    c.loop-wanted.invariant
    ∙ may_all t c.args.names.now.hart region c.deref-wanted-items.result.now c.loop-wanted.wanted-index c.loop-wanted-test.false
    ∙ ap (λ (ws : List Wanted). map (may_all_with t c.args.names.now.hart region (all_wanted ws)) (region.runs c.args.names.now.hart)) (c.deref-wanted-items.ensures ∙ c.deref.ensures)
