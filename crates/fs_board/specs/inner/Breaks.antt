-- What breaks a witness, and what it is within, by the pairs that it keeps at each slot of a part.
use Rattle.std.specs.Prelude.{ℕ, Bool, false, ◌&&◌, Option, None, Some, List, ◌∷◌, map, slice_get}
use Rattle.std.specs.declared.sync.Arc.{Arc}
use Rattle.fs_kinds.specs.declared.placement.Entry.{Entry}
use Rattle.fs_board_offers.specs.Offers.{Offers, entry_cost, cost}
use Rattle.fs_cert_evidence.specs.Widths.{Width}
use Rattle.fs_board_offers.specs.Parts.{Part, Decision, floor}
use Rattle.fs_board_offers.specs.Pruning.{breaking_at, is_breakable, least, is_no_better}
use Rattle.fs_cert_evidence.specs.declared.evidence.Pairs.{Pairs}
use Rattle.fs_cert_evidence.specs.Evidence.{Shown, keeps}
use Rattle.fs_board_offers.specs.Breaks.{lesser_of, break_apart, bound_of}

module _ {A : Type 0} where
  abbrev pub widths_in : Arc Shown A → List Pairs
  widths_in w = w.value.widths

-- the width that keeps these pairs at each slot
abbrev pub everywhere : Pairs → Width
everywhere pairs slot = keeps pairs

-- what the cheapest fence costs that breaks the witness at a slot
abbrev pub least_at : Offers → Pairs → Decision → Option ℕ
least_at offers pairs d = least (map (entry_cost offers) (breaking_at offers (everywhere pairs) d))

-- and at any slot of the part
abbrev pub least_in : Offers → Part → List Pairs → Option ℕ
least_in offers (d ∷ part) (pairs ∷ widths) = lesser_of (least_at offers pairs d) (least_in offers part widths)
least_in offers _ _ = None

-- slot number k is breakable for a witness of these widths
abbrev pub breaks_at : Offers → Decision → Option Pairs → Bool
breaks_at offers d None = false
breaks_at offers d (Some pairs) = is_breakable offers (everywhere pairs) d

abbrev pub is_breakable_at : Offers → ℕ → Decision → List Pairs → Bool
is_breakable_at offers k d widths = breaks_at offers d (slice_get widths k)

-- they bound the part
abbrev pub is_bounded : Offers → (bound : Option (List Entry)) → Part → List (List Pairs) → Bool
is_bounded offers bound part ws =
    break_apart (is_breakable_at offers) 0 part ws
    && is_no_better offers bound part (bound_of (least_in offers part) (cost offers (floor part)) ws)
