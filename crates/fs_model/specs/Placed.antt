-- FENCE words, such as `P0:3=w,w`, and the placement that they name.
use Rattle.std.specs.Prelude.{◌≡◌, ◌≢◌, ℕ, List, [], ◌∷◌, map, Bool, true, ◌&&◌, is_some, is_none, Option, Some, None, if◌then◌else◌}
use Rattle.fs_kinds.specs.declared.kind.Kind.{Kind}
use Rattle.fs_kinds.specs.declared.slot.Slot.{Slot}
use Rattle.fs_kinds.specs.declared.placement.Entry.{Entry}
use Rattle.fs_kinds.specs.Slot.{IsSlot, fence_word}
use Rattle.fs_kinds.specs.Placement.{all_with, has_slot, kind_at, with_kind}
use Rattle.fs_kinds.specs.PriceTable.{PriceTable, price_of}

-- the word of a slot and the kind of the fence there
abbrev pub word_of : Slot × Kind → List ℕ
word_of fence = fence_word fence.0 fence.1

-- the word of no slot and kind
abbrev pub IsNoFence : List ℕ → Type 0
IsNoFence word = (slot : Slot) (kind : Kind) → IsSlot slot → word ≢ fence_word slot kind

-- with prices, only the kinds that have one are offered
abbrev pub is_offered : Option PriceTable → Kind → Bool
is_offered None kind = true
is_offered (Some prices) kind = is_some (price_of prices kind)

-- the fence's kind is offered, and its slot is there with no fence yet
abbrev pub fits : Option PriceTable → List Entry → Slot × Kind → Bool
fits prices p fence = is_offered prices fence.1 && (is_none (kind_at fence.0 p) && has_slot fence.0 p)

-- the placement with the fences put at their slots, unless one doesn't fit
abbrev pub placed : Option PriceTable → List Entry → List (Slot × Kind) → Option (List Entry)
placed prices p [] = Some p
placed prices p (fence ∷ fences) = if fits prices p fence then placed prices (with_kind fence.0 (Some fence.1) p) fences else None

-- what the words put at these slots, which have no fence at first
abbrev pub IsPlaced : Option PriceTable → List Slot → List (List ℕ) → Option (List Entry) → Type 0
IsPlaced prices slots words result = (fences : List (Slot × Kind)) × (map word_of fences ≡ words) × (placed prices (all_with None slots) fences ≡ result)
