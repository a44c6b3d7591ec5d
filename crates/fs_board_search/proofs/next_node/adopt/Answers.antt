use Rattle.std.proofs.Common.{subst, arith}
use Rattle.fs_board_offers.specs.Board.{Adopt}
use Rattle.fs_board.specs.View.{Answers}
use Rattle.fs_board_search.proofs.Replied.{given-out}
use Rattle.fs_board_search.proofs.next_node.adopt.Goals as goal

pub returns-clause-done : goal.returns-clause-done
returns-clause-done c =
    let out = given-out c.args.board.now c.adopt.new.self (Adopt c.args.node) c.in-Some.node c.in-Some.part.value
    (subst (Answers c.args.board.now c.adopt.new.self 0 (Adopt c.args.node)) c.in-Some.ensures c.in_ok-reply.ensures.step) in
    let more = out.done in
    omega arith
