-- What breaks a witness, and what it is within, by the pairs that it keeps at each slot of a part.
use Rattle.std.specs.Prelude.{ℕ, Bool, false, ◌&&◌, if◌then◌else◌, Option, None, Some, is_none, is_some, unwrap_or, List, [], ◌∷◌, map, slice_get}
use Rattle.std.specs.List.{zip}
use Rattle.fs_kinds.specs.declared.kind.Kind.{Kind}
use Rattle.fs_kinds.specs.declared.placement.Entry.{Entry}
use Rattle.fs_kinds.specs.declared.slot.Slot.{Slot}
use Rattle.fs_board_offers.specs.Offers.{Offers, cost}
use Rattle.fs_board_offers.specs.Parts.{Part, Decision, floor}
use Rattle.fs_board_offers.specs.Pruning.{is_no_better}
use Rattle.fs_cert_evidence.specs.declared.evidence.Pairs.{Pairs}
use Rattle.fs_board_offers.specs.Breaks.{is_kept, lesser_of, break_at, break_apart, bound_of}

-- a witness of which this is kept shows the outcome, and so it does with what is decided and this kind elsewhere
abbrev pub is_shown_with : Option Kind → Part → Option (Option (List Pairs)) → Bool
is_shown_with kind part None = false
is_shown_with kind part (Some None) = false
is_shown_with kind part (Some (Some widths)) = is_kept kind part widths

abbrev pub is_shown_under : Option Kind → Part → List (Option (List Pairs)) → ℕ → Bool
is_shown_under kind part shown j = is_shown_with kind part (slice_get shown j)

-- the widths where there are any
abbrev pub widths_in : Option (List Pairs) → List Pairs
widths_in kept = unwrap_or kept []

-- what the cheapest fence costs that is offered and breaks the witness, at each of these slots
abbrev pub breaks_of : Offers → List Slot → List Pairs → List (Option ℕ)
breaks_of offers slots widths = map (λ pair. break_at offers pair.0 pair.1) (zip slots widths)

-- and so for each witness, and at no slot for one that doesn't show the outcome
abbrev pub all_breaks : Offers → List Slot → List (Option (List Pairs)) → List (List (Option ℕ))
all_breaks offers slots = map (λ kept. breaks_of offers slots (widths_in kept))

-- what it costs at each slot to break the witness of this number
abbrev pub breaks_at : List (List (Option ℕ)) → ℕ → List (Option ℕ)
breaks_at breaks j = unwrap_or (slice_get breaks j) []

-- what the cheapest fence costs that breaks the witness, at any undecided slot of the part
abbrev pub least_in : Part → List (Option ℕ) → Option ℕ
least_in (d ∷ part) (cost ∷ breaks) = if is_none d.decided then lesser_of cost (least_in part breaks) else least_in part breaks
least_in _ _ = None

-- the slot is undecided, and the witness can be broken there
abbrev pub is_open : Decision → Option (Option ℕ) → Bool
is_open d None = false
is_open d (Some cost) = is_some cost && is_none d.decided

-- and so it is for slot number k and a witness, by what it costs at each slot to break it
abbrev pub is_breakable_at : ℕ → Decision → List (Option ℕ) → Bool
is_breakable_at k d breaks = is_open d (slice_get breaks k)

-- they bound the part
abbrev pub is_bounded : Offers → (bound : Option (List Entry)) → Part → List (List (Option ℕ)) → Bool
is_bounded offers bound part ws =
    break_apart is_breakable_at 0 part ws
    && is_no_better offers bound part (bound_of (least_in part) (cost offers (floor part)) ws)
