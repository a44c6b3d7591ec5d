use Rattle.std.proofs.Common.{◌≡◌, ◌+◌, ◌*◌, ◌≤◌, Some, take, map, length}
use Rattle.fs_board_offers.specs.Offers.{cost}
use Rattle.fs_board_offers.specs.Parts.{floor}
use Rattle.fs_board_offers.specs.Breaks.{bound_of}
use Rattle.fs_board.specs.inner.Breaks.{least_in, widths_in}
use Rattle.fs_board.proofs.bounds.bound_of.Given as goal

abbrev pub invariant-loop-witness : goal.invariant-loop-witness
invariant-loop-witness l = record {
  so_far : bound_of (least_in l.offers l.part) (cost l.offers (floor l.part)) (map widths_in (take l.witness-index l.witnesses)) ≡ Some l.total;
  most : l.total ≤ 1000000000 * (length l.part + l.witness-index);
}
