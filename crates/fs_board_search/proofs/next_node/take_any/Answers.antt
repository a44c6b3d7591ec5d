use Rattle.std.proofs.Common.{subst, arith}
use Rattle.fs_board_offers.specs.Board.{Take}
use Rattle.fs_board.specs.View.{Answers}
use Rattle.fs_board_search.proofs.Replied.{given-out}
use Rattle.fs_board_search.proofs.next_node.take_any.Goals as goal

pub returns-in-Some-clause-done : goal.returns-in-Some-clause-done
returns-in-Some-clause-done c =
    let out = given-out c.args.board.now c.take.new.self Take c.in-Some.node c.in-Some.part.value
    (subst (Answers c.args.board.now c.take.new.self 0 Take) c.in-Some.ensures c.in_ok-reply.ensures.step) in
    let more = out.done in
    omega arith
