-- The parts of a tree: each has the slots of the offers, and deciding a slot parts what lies under it among the
-- children.
use Rattle.std.proofs.Common.{◌≡◌, ℕ, zero, suc, Bool, true, false, ◌&&◌, ◌||◌, Option, None, Some, is_none, unwrap_or, List, [], ◌∷◌, map, refl, sym, ap, ap₂, subst, ◌∙◌, arith}
use Rattle.std.specs.Prelude.{if◌then◌else◌, slice_get}
use Rattle.std.specs.List.{list_all}
use Rattle.std.proofs.lemmas.Bool.{and_parts, and_from}
use Rattle.std.proofs.lemmas.Bool.Decides.{nat_tests}
use Rattle.fs_kinds.specs.declared.kind.Kind.{Kind}
use Rattle.fs_kinds.specs.declared.placement.Entry.{Entry}
use Rattle.fs_kinds.specs.declared.slot.Slot.{Slot}
use Rattle.fs_kinds.specs.Kind.{all_kinds}
use Rattle.fs_kinds.specs.Placement.{slots_of}
use Rattle.fs_board_offers.specs.Offers.{Offers, is_offered, are_offered, IsPlacement, Offer, slots, options, offer_at, is_offered_at}
use Rattle.fs_kinds.specs.Slot.{is_same_slot, is_before}
use Rattle.fs_board_offers.specs.Parts.{Part, undecided, floor, is_under, is_undecided, decide, child_parts, Decision, slots_in_part}
use Rattle.fs_model_laws.proofs.PlacedPairs.{itself, same_slot}
use Rattle.fs_model_laws.proofs.Ranked.{nil≢cons}
use Rattle.fs_board_offers.specs.Trees.{IsPart}
use Rattle.fs_model_laws.proofs.Places.{at-map, at-filter}

-- ---- slots

-- a slot after the one is another
apart : (s u slot : Slot) → is_before s u ≡ true → is_same_slot s slot ≡ true → is_same_slot u slot ≡ false
apart s u slot before same = grind (arith, nat_tests)

-- slots that all come after this one aren't decided with it
pub decide-after : (s slot : Slot) (kind : Option Kind) (part : Part) → is_same_slot s slot ≡ true
    → list_all (is_before s) (slots_in_part part) ≡ true → decide slot part kind ≡ part
decide-after s slot kind [] same after = refl
decide-after s slot kind (d ∷ part) same after =
    let parts = and_parts (is_before s d.slot) _ after in
    ap₂ (λ h hs. h ∷ hs)
    (ap (λ b. if b then record { slot = d.slot; decided = Some kind } else d) (apart s d.slot slot parts.0 same))
    (decide-after s slot kind part same parts.1)

pub undecided-after : (s slot : Slot) (part : Part) → is_same_slot s slot ≡ true
    → list_all (is_before s) (slots_in_part part) ≡ true → is_undecided slot part ≡ false
undecided-after s slot [] same after = refl
undecided-after s slot (d ∷ part) same after =
    let parts = and_parts (is_before s d.slot) _ after in
    ap₂ (λ a b. (a && is_none d.decided) || b) (apart s d.slot slot parts.0 same) (undecided-after s slot part same parts.1)

pub slots-decide : (slot : Slot) (kind : Option Kind) (part : Part) → slots_in_part (decide slot part kind) ≡ slots_in_part part
slots-decide slot kind [] = refl
slots-decide slot kind (d ∷ part) =
    ap₂ (λ h hs. h ∷ hs) (same-slot (is_same_slot d.slot slot)) (slots-decide slot kind part)
  where
    same-slot : (b : Bool) → (if b then record { slot = d.slot; decided = Some kind } else d).slot ≡ d.slot
    same-slot true = refl
    same-slot false = refl

module _ (offers : Offers) where
  offered-decide : (slot : Slot) (kind : Option Kind) (part : Part) → is_offered (offer_at offers slot) kind ≡ true
      → are_offered offers (floor part) ≡ true → are_offered offers (floor (decide slot part kind)) ≡ true
  offered-decide slot kind [] offered all = refl
  offered-decide slot kind (d ∷ part) offered all =
      let parts = and_parts (is_offered_at offers (least d)) _ all in
      and_from _ _ (here (is_same_slot d.slot slot) refl parts.0) (offered-decide slot kind part offered parts.1)
    where
      least : Decision → Entry
      least e = record { slot = e.slot; kind = unwrap_or e.decided None }

      here : (b : Bool) → is_same_slot d.slot slot ≡ b → is_offered_at offers (least d) ≡ true
          → is_offered_at offers (least (if b then record { slot = d.slot; decided = Some kind } else d)) ≡ true
      here true same old =
          subst (λ (s : Slot). is_offered (offer_at offers s) kind ≡ true) (sym (same_slot d.slot slot same)) offered
      here false same old = old

  pub part-decide : (slot : Slot) (kind : Option Kind) (part : Part) → is_offered (offer_at offers slot) kind ≡ true
      → IsPart offers part → IsPart offers (decide slot part kind)
  part-decide slot kind part offered is = record {
    slots = slots-decide slot kind part ∙ is.slots;
    offered = offered-decide slot kind part offered is.offered;
  }

  -- each option is offered
  option-offered : (offer : Offer) (k : ℕ) (kind : Option Kind) → slice_get (options offer) k ≡ Some kind
      → is_offered offer kind ≡ true
  option-offered offer zero kind at = let same : None ≡ kind = cc in sym (ap (is_offered offer) same)
  option-offered offer (suc k) kind at = at-filter (is_offered offer) (map (λ kind. Some kind) all_kinds) k kind at

  pub part-child : (slot : Slot) (part child : Part) (k : ℕ) → IsPart offers part
      → slice_get (child_parts offers slot part) k ≡ Some child → IsPart offers child
  part-child slot part child k is at =
      let from = at-map (decide slot part) (options (offer_at offers slot)) k child at in
      let kind = from.0 in
      rw from.2 (part-decide slot kind part (option-offered (offer_at offers slot) k kind from.1) is)

-- ---- the root

slots-undecided : (ss : List Slot) → slots_in_part (map (λ slot. record { slot = slot; decided = None }) ss) ≡ ss
slots-undecided [] = refl
slots-undecided (s ∷ ss) = ap (λ us. s ∷ us) (slots-undecided ss)

offered-undecided : (offers : Offers) (ss : List Slot) → are_offered offers (floor (map (λ slot. record { slot = slot; decided = None }) ss)) ≡ true
offered-undecided offers [] = refl
offered-undecided offers (s ∷ ss) = offered-undecided offers ss

pub part-root : (offers : Offers) → IsPart offers (undecided offers)
part-root offers = record { slots = slots-undecided (slots offers); offered = offered-undecided offers (slots offers) }

under-undecided : (ss : List Slot) (p : List Entry) → slots_of p ≡ ss → is_under (map (λ slot. record { slot = slot; decided = None }) ss) p ≡ true
under-undecided [] [] same = refl
under-undecided [] (e ∷ p) same = absurd (nil≢cons e.slot (slots_of p) (sym same))
under-undecided (s ∷ ss) [] same = absurd (nil≢cons s ss same)
under-undecided (s ∷ ss) (e ∷ p) same =
    let first : e.slot ≡ s = ap (λ us. head us) same in
    and_from _ _ (and_from _ _ (ap (λ u. is_same_slot u e.slot) (sym first) ∙ itself e.slot) refl) (under-undecided ss p (ap tail same))
  where
    head : List Slot → Slot
    head [] = s
    head (u ∷ us) = u

    tail : List Slot → List Slot
    tail [] = []
    tail (u ∷ us) = us

pub under-root : (offers : Offers) (p : List Entry) → IsPlacement offers p → is_under (undecided offers) p ≡ true
under-root offers p is = under-undecided (slots offers) p is.slots
