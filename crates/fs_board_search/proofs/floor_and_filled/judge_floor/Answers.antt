use Rattle.std.proofs.Common.{◌≡◌, List, refl, sym, subst}
use Rattle.fs_kinds.specs.declared.slot.Slot.{Slot}
use Rattle.fs_kinds.specs.Placement.{slots_of}
use Rattle.fs_board_offers.specs.Parts.{slots_in_part}
use Rattle.fs_board.specs.Growth.{AreWitnesses}
use Rattle.fs_board_search.proofs.WitnessLists.{floor-slots}
use Rattle.fs_board_search.proofs.floor_and_filled.judge_floor.Goals as goal

pub returns-in_err-forbidden_or_stored-clause-known : goal.returns-in_err-forbidden_or_stored-clause-known
returns-in_err-forbidden_or_stored-clause-known c =
    let t = c.args.judge.now in
    let over : slots_of c.in_ok-floor.floor ≡ slots_in_part c.args.part.now =
    floor-slots c.args.part.now c.in_ok-floor.floor _ c.in_ok-floor.ensures refl in
    subst (λ (ss : List Slot). AreWitnesses t ss c.forbidden_or_stored.new.store) over
    (c.in_err-forbidden_or_stored.ensures.known t c.in_ok-floor.floor c.in_ok-verdict.ensures.ok
    (subst (λ (ss : List Slot). AreWitnesses t ss c.args.store.now) (sym over) c.requires))

pub returns-clause-known : goal.returns-clause-known
returns-clause-known c =
    let t = c.args.judge.now in
    let over : slots_of c.in_ok-floor.floor ≡ slots_in_part c.args.part.now =
    floor-slots c.args.part.now c.in_ok-floor.floor _ c.in_ok-floor.ensures refl in
    subst (λ (ss : List Slot). AreWitnesses t ss c.forbidden_or_stored.new.store) over
    (c.in_ok-forbidden_or_stored.ensures.known t c.in_ok-floor.floor c.in_ok-verdict.ensures.ok
    (subst (λ (ss : List Slot). AreWitnesses t ss c.args.store.now) (sym over) c.requires))

pub returns-clause-ok : goal.returns-clause-ok
returns-clause-ok c = c.in_ok-forbidden_or_stored.ensures.ok c.args.judge.now c.in_ok-floor.floor c.in_ok-verdict.ensures.ok
