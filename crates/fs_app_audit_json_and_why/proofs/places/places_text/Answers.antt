use Rattle.std.proofs.Common.{◌∙◌, List, ap, get_or, take, subst, sym, string_bytes, ◌++◌}
use Rattle.std.proofs.lemmas.List.{take_more}
use Rattle.std.specs.Prelude.{IsTrue}
use Rattle.fs_kinds.specs.declared.placement.Entry.{Entry}
use Rattle.fs_kinds.specs.Placement.{has_slot}
use Rattle.fs_app_why.proofs.Certified.{has_own}
use Rattle.fs_app_audit_json_and_why.specs.Why.{TellsPlace, TellsPlaces}
use Rattle.fs_app_audit_json_and_why.proofs.Needed.{allowed_without, asked_at}
use Rattle.fs_app_audit_json_and_why.proofs.Told.{places_more}
use Rattle.fs_app_audit_json_and_why.proofs.places.places_text.Goals as goal

pub told_there-requires-clause-there : goal.told_there-requires-clause-there
told_there-requires-clause-there c =
    subst (λ (entry : Entry). IsTrue (has_slot entry.slot c.args.placement.now)) (sym c.asked-entry.ensures)
    (has_own _ _ _ _ c.as_slice-entry-items.ensures.entries c.loop-entry-test.true)

pub told_there-requires-clause-allowed : goal.told_there-requires-clause-allowed
told_there-requires-clause-allowed c = λ kind is.
    allowed_without c.args.page.test.now c.requires.advised.0 c.args.placement.now c.asked-entry.result.slot kind c.requires.advised.1
    (asked_at c.args.page.telling c.as_slice-entry-items.result.now c.args.placement.now c.loop-entry.entry-index _ c.asked-entry.result kind
    c.as_slice-entry-items.ensures.entries c.as_slice-entry-items.ensures.rising c.loop-entry-test.true c.asked-entry.ensures is)

pub loop-entry-preserved : goal.loop-entry-preserved
loop-entry-preserved c =
    let t = c.args.page.test.now in
    let lines = c.args.page.lines.now in
    let telling = c.args.page.telling in
    let kinds = c.args.kinds.now in
    let p = c.args.placement.now in
    let items = c.as_slice-entry-items.result.now in
    let k = c.loop-entry.entry-index in
    let before = string_bytes c.loop-entry.text in
    let told = string_bytes c.in_ok-told.told in
    let whole = string_bytes c.push_str.new.self in
    subst (λ (entries : List Entry). TellsPlaces t lines telling kinds p entries whole) (sym (take_more items k _ c.loop-entry-test.true))
    (places_more t lines telling kinds p (take k items) (get_or items k _) before told whole c.loop-entry.invariant
    (subst (λ (entry : Entry). TellsPlace t lines telling kinds p entry.slot entry.kind told) c.asked-entry.ensures c.in_ok-told.ensures.told)
    (c.in_ok-push_str.ensures.bytes ∙ ap (λ text. before ++ text) c.as_str.ensures.value))
