use Rattle.std.proofs.Common.{◌≡◌, ◌*◌, ◌≤◌, take}
use Rattle.fs_board_offers.specs.Offers.{cost}
use Rattle.fs_board_offers.specs.Parts.{floor}
use Rattle.fs_board_offers.proofs.costs.floor_cost.Given as goal

abbrev pub invariant-loop-decision : goal.invariant-loop-decision
invariant-loop-decision l = record {
  so_far : l.total ≡ cost l.offers (floor (take l.decision-index l.part));
  bound : l.total ≤ 1000000000 * l.decision-index;
}
