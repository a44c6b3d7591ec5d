-- When a placement is the best one so far.
use Rattle.std.specs.Prelude.{Bool, true, Option, None, Some, List}
use Rattle.fs_kinds.specs.declared.placement.Entry.{Entry}
use Rattle.fs_board_offers.specs.Offers.{Offers, is_better}

-- the placement is better than the bound, or there is none
abbrev pub is_best : Offers → (bound : Option (List Entry)) → List Entry → Bool
is_best offers None p = true
is_best offers (Some q) p = is_better offers p q
