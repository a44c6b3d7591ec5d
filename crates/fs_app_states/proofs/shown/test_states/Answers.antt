use Rattle.std.proofs.Common.{Err, None, map, string_bytes, ap, sym, subst}
use Rattle.std.proofs.lemmas.Result.{IfOk-weaker, IfErr-weaker}
use Rattle.fs_model.specs.Slots.{slots}
use Rattle.fs_app_place_and_order.proofs.Faults.{IfErr-handed}
use Rattle.fs_app_place_and_order.proofs.Placements.{slots_of-IsPlaced}
use Rattle.fs_app_states.specs.Places.{AreColumns}
use Rattle.fs_app_states.proofs.Showing.{are_places}
use Rattle.fs_app_states.proofs.Answering.{first-locations, first-fences, first-states, told}
use Rattle.fs_app_states.proofs.shown.test_states.Goals as goal

pub returns-in_err-columns-clause-fault : goal.returns-in_err-columns-clause-fault
returns-in_err-columns-clause-fault c =
    IfErr-handed c.from_residual.result _ _ c.from_residual.ensures.1 (first-locations _ _ _ _ c.args.test c.requires.reads c.in_err-columns.ensures.err)

pub returns-in_err-placement-clause-fault : goal.returns-in_err-placement-clause-fault
returns-in_err-placement-clause-fault c =
    IfErr-handed c.from_residual-in_err-placement.result _ _ c.from_residual-in_err-placement.ensures.1
    (first-fences _ _ _ _ c.args.test c.in_ok-columns.columns.items c.requires.reads c.in_ok-columns.ensures.ok (λ e. c.in_err-placement.ensures.bad_fence (ap (λ f. Err f) e)) c.in_err-placement.ensures.err)

pub owned_states-requires-clause-placement : goal.owned_states-requires-clause-placement
owned_states-requires-clause-placement c = slots_of-IsPlaced None (slots c.args.test) (map string_bytes c.args.fences.now) c.in_ok-placement.placement c.in_ok-placement.ensures.ok

pub owned_states-requires-clause-places : goal.owned_states-requires-clause-places
owned_states-requires-clause-places c =
    let are = subst (AreColumns c.args.bytes.now c.args.test c.args.asked.all) (sym c.deref.ensures.value) c.in_ok-columns.ensures.ok in
    are_places c.args.bytes.now c.args.test c.args.asked.all c.deref.result.now are

pub returns-clause-text : goal.returns-clause-text
returns-clause-text c =
    let are = subst (AreColumns c.args.bytes.now c.args.test c.args.asked.all) (sym c.deref.ensures.value) c.in_ok-columns.ensures.ok in
    IfOk-weaker c.owned_states.result _ _
    (λ text of. told c.args.bytes.now (map string_bytes c.args.fences.now) c.args.asked (string_bytes text) c.args.test c.in_ok-placement.placement c.deref.result.now c.requires.reads c.requires.test.bounded c.in_ok-placement.ensures.ok are of)
    c.owned_states.ensures.ok

pub returns-clause-fault : goal.returns-clause-fault
returns-clause-fault c =
    let are = subst (AreColumns c.args.bytes.now c.args.test c.args.asked.all) (sym c.deref.ensures.value) c.in_ok-columns.ensures.ok in
    IfErr-weaker c.owned_states.result _ _
    (λ f h. first-states c.args.bytes.now (map string_bytes c.args.fences.now) c.args.asked f c.args.test c.in_ok-placement.placement c.deref.result.now c.requires.reads c.in_ok-placement.ensures.ok are h)
    c.owned_states.ensures.err
