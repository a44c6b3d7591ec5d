use Rattle.fs_board_search.proofs.Goes.{taken-node}
use Rattle.fs_board_search.proofs.next_node.hold.Goals as goal

pub returns : goal.returns
returns c = taken-node c.args.board.now c.args.node c.args.part.value c.requires c.log-legal.ensures.legal
