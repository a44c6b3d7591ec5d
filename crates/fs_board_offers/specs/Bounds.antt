-- What is said of pruned partial placements and of the order of placements.
use Rattle.std.specs.Prelude.{◌≡◌, ◌⊎◌, false, true, Option, None, Some, List}
use Rattle.fs_kinds.specs.declared.placement.Entry.{Entry}
use Rattle.fs_board_offers.specs.Offers.{Offers, is_better}

-- the placement isn't better than the bound; where there is no bound yet, each placement is better
abbrev pub IsNoBetter : Offers → (bound : Option (List Entry)) → List Entry → Type 0
IsNoBetter offers None q = ⊥
IsNoBetter offers (Some p) q = is_better offers q p ≡ false

-- two placements are the same, or one of them is better
abbrev pub AreRanked : Offers → List Entry → List Entry → Type 0
AreRanked offers p q = (p ≡ q) ⊎ ((is_better offers p q ≡ true) ⊎ (is_better offers q p ≡ true))
