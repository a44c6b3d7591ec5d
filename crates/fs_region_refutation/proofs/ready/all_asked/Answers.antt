use Rattle.std.proofs.Common.{◌∙◌, [], All, subst, sym}
use Rattle.std.specs.Arc.{arc_value}
use Rattle.std.proofs.lemmas.List.{get_or_default}
use Rattle.fs_region_refutation.specs.Runs.{HasProgramOf}
use Rattle.fs_region_refutation.proofs.ready.all_asked.Goals as goal

pub asked-requires : goal.asked-requires
asked-requires c =
    let lists = c.args.lists.now in
    let at = c.loop-list.list-index in
    let list = c.list-item.result in
    subst (All (HasProgramOf (arc_value c.args.test.now)))
    (sym (c.as_slice.ensures ∙ c.list-item.is ∙ get_or_default lists at list [] c.loop-list-test.true))
    (c.requires at)
