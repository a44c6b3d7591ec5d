use Rattle.std.proofs.Common.{refl}
use Rattle.fs_board_offers.specs.Board.{Take, Claim, Adopt}
use Rattle.fs_board.proofs.Telling.{told}
use Rattle.fs_board.proofs.board.Board.ask.Goals as goal

pub returns-in-Take-clause-tells : goal.returns-in-Take-clause-tells
returns-in-Take-clause-tells c = told c.args.self.now _ c.args.worker Take refl c.log-legal.ensures.legal c.take.result c.take.ensures.step

pub returns-in-Claim-clause-tells : goal.returns-in-Claim-clause-tells
returns-in-Claim-clause-tells c =
    told c.args.self.now _ c.args.worker (Claim c.in-Claim.node) refl c.log-legal.ensures.legal c.claim.result c.claim.ensures.step

pub returns-in-Adopt-clause-tells : goal.returns-in-Adopt-clause-tells
returns-in-Adopt-clause-tells c =
    told c.args.self.now _ c.args.worker (Adopt c.in-Adopt.node) refl c.log-legal.ensures.legal c.adopt.result c.adopt.ensures.step
