use Rattle.std.proofs.Common.{◌≡◌, ◌*◌, ◌≤◌, take}
use Rattle.fs_board_offers.specs.Offers.{cost}
use Rattle.fs_board_offers.proofs.costs.cost.Given as goal

abbrev pub invariant-loop-entry : goal.invariant-loop-entry
invariant-loop-entry l = record {
  so_far : l.total ≡ cost l.offers (take l.entry-index l.placement);
  bound : l.total ≤ 1000000000 * l.entry-index;
}
