use Rattle.std.proofs.Common.{sym, subst}
use Rattle.fs_model.specs.Execution.{Execution}
use Rattle.fs_cert_evidence.specs.Evidence.{Shown, IsWitnessAt}
use Rattle.fs_board.specs.Growth.{AreWitnesses}
use Rattle.fs_board_search.proofs.WitnessLists.{one-more}
use Rattle.fs_board_search.proofs.scout.keep_new.Goals as goal

pub returns-in_err-keep : goal.returns-in_err-keep
returns-in_err-keep c = λ t ss new each. subst (AreWitnesses t ss) (sym c.in_err-keep.ensures.err) each

pub returns : goal.returns
returns c = λ t ss new each.
    one-more t ss c.args.store.now c.in_ok-shared.shared.value c.keep.new.self c.in_ok-keep.ensures.ok each
    (subst (λ (w : Shown). (e : Execution) × IsWitnessAt t ss w e) (sym c.in_ok-shared.ensures) new)
