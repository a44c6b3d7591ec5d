-- What is said of the order of placements.
use Rattle.std.specs.Prelude.{◌≡◌, ◌⊎◌, true, List}
use Rattle.fs_kinds.specs.declared.placement.Entry.{Entry}
use Rattle.fs_kinds.specs.PriceTable.{PriceTable}
use Rattle.fs_model.specs.Allows.{is_better}

-- two placements are the same, or one of them is better
abbrev pub AreRanked : PriceTable → List Entry → List Entry → Type 0
AreRanked prices p q = (p ≡ q) ⊎ ((is_better prices p q ≡ true) ⊎ (is_better prices q p ≡ true))
