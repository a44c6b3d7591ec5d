use Rattle.std.proofs.Common.{◌≡◌, Some, subst}
use Rattle.std.specs.Prelude.{IfSome}
use Rattle.fs_board_offers.specs.Parts.{Part}
use Rattle.fs_board_offers.specs.Board.{is_held, part_at}
use Rattle.fs_board.specs.Growth.{board_of}
use Rattle.fs_board.specs.View.{Search}
use Rattle.fs_board.proofs.Children.{some_part}
use Rattle.fs_board.proofs.board.Board.any_held.Goals as goal

pub returns-clause-some : goal.returns-clause-some
returns-clause-some c =
    subst (λ (s : Search). IfSome c.any_held.result (λ k. (p : Part) × (part_at is_held s.board k ≡ Some p))) c.self.view_is
    (some_part is_held (board_of c.self.inside.tree) c.any_held.result c.any_held.ensures.some)
