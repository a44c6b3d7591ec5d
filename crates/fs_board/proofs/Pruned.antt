-- When witnesses bound a part, by the pairs that they keep at its slots.
use Rattle.std.proofs.Common.{◌≡◌, ℕ, zero, suc, ◌&&◌, not, Option, None, Some, List, [], ◌∷◌, map, refl, sym, ap, ap₂, ◌∙◌}
use Rattle.std.specs.Prelude.{if◌then◌else◌, filter, slice_get}
use Rattle.std.specs.declared.sync.Arc.{Arc}
use Rattle.std.specs.List.{count_by, flat_map}
use Rattle.fs_kinds.specs.declared.kind.Kind.{Kind}
use Rattle.fs_kinds.specs.declared.placement.Entry.{Entry}
use Rattle.fs_kinds.specs.declared.slot.Slot.{Slot}
use Rattle.fs_board_offers.specs.Offers.{Offers, entry_cost, options, offer_at}
use Rattle.fs_board_offers.specs.Parts.{Part, Decision, slots_in_part}
use Rattle.fs_board_offers.specs.Pruning.{breaks, breaking_ways, breaking_at, is_empty, is_breakable, least, least_break, is_no_better, is_pruned}
use Rattle.fs_cert_evidence.specs.Widths.{Width}
use Rattle.fs_cert_evidence.specs.Evidence.{Shown, pairs_at, widths_of}
use Rattle.fs_model_laws.proofs.Places.{count-map}
use Rattle.fs_board_offers.specs.Breaks.{lesser_of}
use Rattle.fs_board.specs.inner.Breaks.{widths_in, everywhere, least_in, breaks_at, is_breakable_at, is_bounded}
use Rattle.fs_board_offers.proofs.LeastCosts.{least_append}
use Rattle.fs_board_offers.proofs.Bounding.{same_bound, same_apart}

-- ---- what loops over witnesses need

pub count_widths : {A : Type 0} (offers : Offers) (k : ℕ) (d : Decision) (ws : List (Arc Shown A))
    → count_by (λ w. is_breakable_at offers k d (widths_in w)) ws ≡ count_by (is_breakable_at offers k d) (map widths_in ws)
count_widths offers k d ws = sym (count-map (is_breakable_at offers k d) widths_in ws)

-- ---- a width, and the pairs that it keeps at the slots of a part

module _ (offers : Offers) (w : Width) where
  abbrev at_slot : Slot → Option Kind → Entry
  at_slot slot kind = record { slot = slot; kind = kind }

  same_breaks : (slot : Slot) (kinds : List (Option Kind))
      → filter (breaks w) (map (at_slot slot) kinds) ≡ filter (breaks (everywhere (pairs_at w slot))) (map (at_slot slot) kinds)
  same_breaks slot [] = refl
  same_breaks slot (kind ∷ kinds) = ap (λ es. if breaks w (at_slot slot kind) then at_slot slot kind ∷ es else es) (same_breaks slot kinds)

  same_ways : (slot : Slot) (decided : Option (Option Kind))
      → breaking_ways offers w slot decided ≡ breaking_ways offers (everywhere (pairs_at w slot)) slot decided
  same_ways slot None = same_breaks slot (options (offer_at offers slot))
  same_ways slot (Some kind) = refl

  pub same_least : (part : Part) → least_in offers part (widths_of w (slots_in_part part)) ≡ least_break offers part w
  same_least [] = refl
  same_least (d ∷ part) =
      ap₂ (λ es n. lesser_of (least (map (entry_cost offers) es)) n) (sym (same_ways d.slot d.decided)) (same_least part)
      ∙ sym (least_append offers (breaking_at offers w d) (flat_map (breaking_at offers w) part))

  same_breakable : (d : Decision) → is_breakable offers (everywhere (pairs_at w d.slot)) d ≡ is_breakable offers w d
  same_breakable d = ap (λ es. not (is_empty es)) (sym (same_ways d.slot d.decided))

-- ---- slot by slot

module _ (offers : Offers) where
  at_width : (ss : List Slot) (k : ℕ) (d : Decision) (w : Width) → slice_get ss k ≡ Some d.slot
      → is_breakable_at offers k d (widths_of w ss) ≡ is_breakable offers w d
  at_width ss k d w at = ap (breaks_at offers d) (got ss k at) ∙ same_breakable offers w d
    where
      got : (ss : List Slot) (k : ℕ) → slice_get ss k ≡ Some d.slot → slice_get (widths_of w ss) k ≡ Some (pairs_at w d.slot)
      got [] k at = absurd (cc)
      got (s ∷ ss) zero at = let same : s ≡ d.slot = cc in ap (λ u. Some (pairs_at w u)) same
      got (s ∷ ss) (suc k) at = got ss k at

  pub same_pruned : (bound : Option (List Entry)) (part : Part) (ws : List Width)
      → is_bounded offers bound part (map (λ w. widths_of w (slots_in_part part)) ws) ≡ is_pruned offers bound part ws
  same_pruned bound part ws =
      ap₂ (λ b n. b && is_no_better offers bound part n)
      (same_apart offers (is_breakable_at offers) (λ ss w. widths_of w ss) at_width part ws)
      (same_bound offers part (least_in offers part) (λ w. widths_of w (slots_in_part part)) (λ w. same_least offers w part) ws)
