use Rattle.std.proofs.Common.{◌≡◌, sym, subst, ap, arith}
use Rattle.fs_board_offers.specs.Board.{Board, Claim}
use Rattle.fs_board.specs.View.{Answers}
use Rattle.fs_board_search.specs.inner.Steps.{done}
use Rattle.fs_board_search.proofs.Replied.{given-out}
use Rattle.fs_board_search.proofs.next_node.claim_child.Goals as goal

pub returns-in-Some-given-clause-done : goal.returns-in-Some-given-clause-done
returns-in-Some-given-clause-done c =
    let out = given-out c.loop-child.board c.claim.new.self (Claim c.in-Some.child.node) c.in-Some-given.node c.in-Some-given.part.value
    (subst (Answers c.loop-child.board c.claim.new.self 0 (Claim c.in-Some.child.node)) c.in-Some-given.ensures c.in_ok-reply.ensures.step) in
    let same : done c.args.board.now.board ≡ done c.loop-child.board.board = ap (λ (b : Board). done b) (sym c.loop-child.invariant.board) in
    let more = out.done in
    omega arith
