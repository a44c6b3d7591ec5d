use Rattle.std.proofs.Common.{sym, subst}
use Rattle.std.specs.Prelude.{IfSome}
use Rattle.fs_board.specs.View.{event_of, reply_of}
use Rattle.fs_board_search.specs.Tries.{IsTry}
use Rattle.fs_board_search.specs.inner.Steps.{IsTried}
use Rattle.fs_board_search.proofs.Goes.{goes-on}
use Rattle.fs_board_search.proofs.Replied.{tried}
use Rattle.fs_board_search.proofs.closing.try_way.Goals as goal

pub returns-clause-ok : goal.returns-clause-ok
returns-clause-ok c =
    let try = subst (λ o. IfSome o (IsTry c.args.scout.now)) c.in-Some.is c.in_ok-found.ensures.made in
    subst (IsTried c.args.board.now c.ask.new.self) (sym c.is_end.ensures)
    (tried c.args.board.now c.ask.new.self (event_of c.in-Some.event) (reply_of c.in_ok-reply.reply) try.1 c.in_ok-reply.ensures.step)

pub returns-clause-goes : goal.returns-clause-goes
returns-clause-goes c =
    goes-on c.args.board.now c.ask.new.self 0 (event_of c.in-Some.event) (reply_of c.in_ok-reply.reply) c.in_ok-reply.ensures.step
