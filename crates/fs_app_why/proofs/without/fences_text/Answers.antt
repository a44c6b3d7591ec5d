use Rattle.std.proofs.Common.{IfOk, ap, append_assoc, get_or, subst, sym, take, string_bytes, ◌++◌, ◌∙◌}
use Rattle.std.proofs.lemmas.List.{take_more}
use Rattle.std.specs.Prelude.{IsTrue}
use Rattle.fs_kinds.specs.declared.placement.Entry.{Entry}
use Rattle.fs_kinds.specs.Placement.{has_slot}
use Rattle.fs_app_why.specs.Why.{NoWitnessShows, TellsEntry, TellsFences, head_text}
use Rattle.fs_app_why.proofs.Certified.{fences_more, has_own}
use Rattle.fs_app_why.proofs.without.fences_text.Goals as goal

pub without_text-requires-clause-there : goal.without_text-requires-clause-there
without_text-requires-clause-there c =
    subst (λ (entry : Entry). IsTrue (has_slot entry.slot c.args.placement.now)) (sym c.asked-entry.ensures)
    (has_own _ _ _ _ c.as_slice-entry-items.ensures.entries c.loop-entry-test.true)

pub loop-entry-preserved : goal.loop-entry-preserved
loop-entry-preserved c = λ ws kept.
    let t = c.args.test.now in
    let N = NoWitnessShows t ws in
    let lines = c.args.lines.now in
    let telling = c.args.telling in
    let kinds = c.args.kinds.now in
    let items = c.as_slice-entry-items.result.now in
    let k = c.loop-entry.entry-index in
    let before = string_bytes c.loop-entry.text in
    let head = string_bytes c.in_ok-head.head in
    let without = string_bytes c.in_ok-told.told in
    let whole = string_bytes c.push_str-in-loop-entry.new.self in
    subst (λ entries. TellsFences t lines telling kinds ws N c.args.placement.now entries whole)
    (sym (take_more items k _ c.loop-entry-test.true))
    (fences_more t lines telling kinds ws N c.args.placement.now (take k items) (get_or items k _) before (head ++ without) whole
    (c.loop-entry.invariant ws kept)
    (subst (λ (entry : Entry). TellsEntry t lines telling kinds ws N c.args.placement.now entry (head ++ without)) c.asked-entry.ensures
    (without, c.in_ok-told.ensures.told ws kept, ap (λ text. text ++ without) c.in_ok-head.ensures))
    (c.in_ok-push_str-2.ensures.bytes
    ∙ ap (λ text. text ++ c.as_str-in-loop-entry.result.now) (c.in_ok-push_str.ensures.bytes ∙ ap (λ text. before ++ text) c.as_str.ensures.value)
    ∙ ap (λ text. before ++ head ++ text) c.as_str-in-loop-entry.ensures.value
    ∙ append_assoc before head without))
