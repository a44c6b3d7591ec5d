use Rattle.std.proofs.Common.{arith, rules}
use Rattle.fs_app_io.proofs.Breaks.{rsplit_once_char}
use Rattle.fs_app_states.proofs.report.before_break.Goals as goal

pub returns-in-Some : goal.returns-in-Some
returns-in-Some c =
    let split = rsplit_once_char 10 c.args.text.now _ c.rsplit_once.ensures.cases (omega arith) in
    rw (← split) (grind rules)

pub returns-in-None : goal.returns-in-None
returns-in-None c =
    let split = rsplit_once_char 10 c.args.text.now _ c.rsplit_once.ensures.cases (omega arith) in
    rw (← split) (grind rules)
