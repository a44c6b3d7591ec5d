use Rattle.std.proofs.Common.{◌==◌, not, sym, ◌∙◌, ap}
use Rattle.fs_board_offers.specs.Board.{is_held, has_node}
use Rattle.fs_board.specs.Growth.{board_of}
use Rattle.fs_board.proofs.Counts.{count_any}
use Rattle.fs_board.proofs.tree.Tree.has_held.Goals as goal

pub returns : goal.returns
returns c =
    ap (λ n. not (n == 0)) c.self.invariant.kept
    ∙ (sym (count_any is_held c.self.inside.nodes.items) ∙ ap (λ t. has_node is_held (board_of t)) c.self.view_is)
