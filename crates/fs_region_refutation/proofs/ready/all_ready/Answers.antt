use Rattle.std.proofs.Common.{◌∙◌, [], All, subst, sym}
use Rattle.std.specs.Arc.{arc_value}
use Rattle.std.proofs.lemmas.List.{get_or_default}
use Rattle.fs_region_refutation.specs.Alone.{IsRun}
use Rattle.fs_region_refutation.proofs.ready.all_ready.Goals as goal

pub ready-requires-clause-runs : goal.ready-requires-clause-runs
ready-requires-clause-runs c =
    let lists = c.args.lists.now in
    let hart = c.loop-hart.hart in
    let list = c.index-lists-hart.result in
    subst (All (IsRun (arc_value c.args.test.now) hart))
    (sym (c.as_slice.ensures ∙ c.index-lists-hart.is ∙ get_or_default lists hart list [] c.loop-hart-test.true))
    (c.requires.runs hart)
