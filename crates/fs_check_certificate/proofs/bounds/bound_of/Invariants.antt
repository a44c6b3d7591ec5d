use Rattle.std.proofs.Common.{◌≡◌, ◌+◌, ◌*◌, ◌≤◌, Some, take, map, length}
use Rattle.fs_board_offers.specs.Offers.{cost}
use Rattle.fs_board_offers.specs.Parts.{floor}
use Rattle.fs_board_offers.specs.Breaks.{bound_of}
use Rattle.fs_check_certificate.specs.Breaks.{least_in, breaks_at}
use Rattle.fs_check_certificate.proofs.bounds.bound_of.Given as goal

abbrev pub invariant-loop-number : goal.invariant-loop-number
invariant-loop-number l = record {
  so_far : bound_of (least_in l.part) (cost l.offers (floor l.part)) (map (breaks_at l.breaks) (take l.number-index l.numbers)) ≡ Some l.total;
  most : l.total ≤ 1000000000 * length l.part + 4294967296 * l.number-index;
}
