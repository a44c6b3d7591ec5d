use Rattle.std.proofs.Common.{◌≡◌, take, map}
use Rattle.std.specs.Prelude.{filter}
use Rattle.fs_board_offers.specs.Offers.{is_offered, offer_at}
use Rattle.fs_board_offers.specs.Parts.{decide}
use Rattle.fs_board.specs.Growth.{open_node}
use Rattle.fs_board.proofs.node.children_of.Given as goal

abbrev pub invariant-loop-kind : goal.invariant-loop-kind
invariant-loop-kind l = l.nodes.items ≡ map open_node (map (decide l.slot l.part) (filter (is_offered (offer_at l.offers l.slot)) (take l.kind-index l.kinds)))
