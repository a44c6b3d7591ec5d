use Rattle.std.proofs.Common.{List, get_or, subst, sym, take}
use Rattle.std.proofs.lemmas.List.{take_more}
use Rattle.std.specs.Prelude.{IsTrue}
use Rattle.fs_kinds.specs.declared.placement.Entry.{Entry}
use Rattle.fs_kinds.specs.Placement.{has_slot}
use Rattle.fs_app_why.proofs.Certified.{has_own}
use Rattle.fs_app_dot.specs.Executions.{IsOfAsked, IsOfEntry}
use Rattle.fs_app_dot.specs.Kinds.{AreOf}
use Rattle.fs_app_dot.proofs.Several.{are_more}
use Rattle.fs_app_dot.proofs.without.fence_pictures.Goals as goal

pub entry_picture-requires-clause-there : goal.entry_picture-requires-clause-there
entry_picture-requires-clause-there c =
    subst (λ (entry : Entry). IsTrue (has_slot entry.slot c.args.placement.now)) (sym c.asked-entry.ensures)
    (has_own _ _ _ _ c.as_slice-entry-items.ensures.entries c.loop-entry-test.true)

pub loop-entry-preserved : goal.loop-entry-preserved
loop-entry-preserved c = λ ws kept.
    let t = c.args.page.test.now in
    let title = c.args.page.title.now in
    let p = c.args.placement.now in
    let IsOf = IsOfAsked t title c.args.telling ws p in
    let items = c.as_slice-entry-items.result.now in
    let k = c.loop-entry.entry-index in
    let found = c.in_ok-found.found in
    subst (λ (entries : List Entry). AreOf IsOf entries c.push_found.new.pictures.items) (sym (take_more items k _ c.loop-entry-test.true))
    (are_more IsOf (take k items) (get_or items k _) _ _ found (c.loop-entry.invariant ws kept)
    (subst (λ (entry : Entry). IsOfEntry t title ws p entry.slot entry.kind found) c.asked-entry.ensures
    (c.in_ok-found.ensures.shown ws kept))
    c.in_ok-push_found.ensures)
