use Rattle.fs_app_plain.proofs.LeftOut.{left_out}
use Rattle.fs_app_plain.proofs.LoopsOnce.{in_one_turn, allowed_in_one_turn}
use Rattle.fs_app_plain.proofs.loop_laws.one_turn_is_enough.Goals as goal

pub returns-clause-ends : goal.returns-clause-ends
returns-clause-ends c asked t p e idle is =
    let o = in_one_turn asked t p idle (left_out t p) e is in
    (o.end, o.execution, o.one_turn, o.same)

pub returns-clause-shown : goal.returns-clause-shown
returns-clause-shown c asked t p idle asks = allowed_in_one_turn asked t p idle (left_out t p) asks
