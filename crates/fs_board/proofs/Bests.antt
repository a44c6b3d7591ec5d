-- When a part is pruned by cost alone, and what is the better one of two placements.
use Rattle.std.proofs.Common.{◌≡◌, Option, None, Some, List, [], refl}
use Rattle.std.specs.Prelude.{not, if◌then◌else◌}
use Rattle.fs_kinds.specs.declared.placement.Entry.{Entry}
use Rattle.fs_board_offers.specs.Offers.{Offers}
use Rattle.fs_board_offers.specs.Parts.{Part, floor}
use Rattle.fs_board_offers.specs.Pruning.{is_pruned}
use Rattle.fs_board_offers.specs.Board.{better_of}
use Rattle.fs_board_offers.specs.Bests.{is_best}
use Rattle.fs_board_offers.proofs.Floors.{cost-alone}

pub pruned_by_cost : (offers : Offers) (bound : Option (List Entry)) (part : Part) → is_pruned offers bound part [] ≡ not (is_best offers bound (floor part))
pruned_by_cost offers None part = refl
pruned_by_cost offers (Some p) part = cost-alone offers p part

pub best_is_bound : (offers : Offers) (bound : Option (List Entry)) (p : List Entry) → (if is_best offers bound p then Some p else bound) ≡ better_of offers bound p
best_is_bound offers None p = refl
best_is_bound offers (Some q) p = refl
