-- Placements that the words of fences fill.
use Rattle.std.specs.Prelude.{◌≡◌, ℕ, true, Option, None, Some, List}
use Rattle.fs_kinds.specs.declared.placement.Entry.{Entry}
use Rattle.fs_kinds.specs.declared.slot.Slot.{Slot}
use Rattle.fs_kinds.specs.Placement.{slots_of}
use Rattle.fs_cert_evidence.specs.Certificate.{Answer, fence_words}
use Rattle.fs_board_offers.specs.Offers.{Offers, are_offered}
use Rattle.fs_board_offers.specs.Valid.{IsAnswered}

-- the placement has these slots and offered kinds, and these are the words of its fences in slot order
pub record Fills (offers : Offers) (all : List Slot) (words : List (List ℕ)) (p : List Entry) : Type 0 where
  pub slots : slots_of p ≡ all
  pub offered : are_offered offers p ≡ true
  pub worded : fence_words p ≡ words

-- the one placement that they fill, where there is one
abbrev pub IsFilling : Offers → List Slot → List (List ℕ) → Option (List Entry) → Type 0
IsFilling offers all words None = (p : List Entry) → Fills offers all words p → ⊥
IsFilling offers all words (Some p) = Fills offers all words p × ((q : List Entry) → Fills offers all words q → q ≡ p)

-- the placement that is answered, where one is
abbrev pub IsPlacementFor : Offers → Answer → Option (List Entry) → Type 0
IsPlacementFor offers answer None = (p : List Entry) → IsAnswered offers answer p → ⊥
IsPlacementFor offers answer (Some p) = IsAnswered offers answer p
