use Rattle.std.proofs.Common.{◌≡◌, take, false}
use Rattle.std.specs.List.{list_any}
use Rattle.fs_board_offers.specs.Board.{is_held}
use Rattle.fs_board.proofs.tree.Tree.any_held.Given as goal

abbrev pub invariant-loop-k : goal.invariant-loop-k
invariant-loop-k l = list_any (λ node. is_held node.status) (take l.k l.self.nodes) ≡ false
