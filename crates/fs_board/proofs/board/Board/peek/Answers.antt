use Rattle.fs_board.specs.Asking.{Tells}
use Rattle.fs_board.proofs.Backed.{ok_given}
use Rattle.fs_board.proofs.board.Board.peek.Goals as goal

pub returns-clause-tells : goal.returns-clause-tells
returns-clause-tells c =
    ok_given c.refuse.result c.in_ok-reply.reply (Tells c.args.self.now.question) c.refuse.ensures.given c.in_ok-reply.ensures.tells
