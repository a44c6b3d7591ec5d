use Rattle.std.proofs.Common.{sym, subst}
use Rattle.fs_kinds.specs.Placement.{slots_of}
use Rattle.fs_board.specs.Growth.{AreWitnesses}
use Rattle.fs_judge.specs.Verdicts.{IsVerdict}
use Rattle.fs_board_search.proofs.WitnessLists.{one-more}
use Rattle.fs_board_search.proofs.floor_and_filled.forbidden_or_stored.Goals as goal

pub returns-in_err-add-in-Allowed-clause-known : goal.returns-in_err-add-in-Allowed-clause-known
returns-in_err-add-in-Allowed-clause-known c = λ t p is known.
    subst (AreWitnesses t (slots_of p)) (sym c.in_err-add-in-Allowed.ensures.err) known

pub returns-in_ok-add-in-Allowed-clause-known : goal.returns-in_ok-add-in-Allowed-clause-known
returns-in_ok-add-in-Allowed-clause-known c = λ t p is known.
    let shown = subst (IsVerdict t p) c.in-Allowed.is is in
    one-more t (slots_of p) c.args.store.now c.in-Allowed.found c.add.new.self c.in_ok-add-in-Allowed.ensures.ok known (shown.0, shown.1)
