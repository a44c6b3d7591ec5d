-- When witnesses bound a part, by what it costs at its slots to break them.
use Rattle.std.proofs.Common.{◌≡◌, ℕ, zero, suc, ◌&&◌, Option, Some, List, [], ◌∷◌, map, refl, sym, ap, ap₂, ◌∙◌}
use Rattle.std.specs.Prelude.{slice_get}
use Rattle.std.specs.List.{count_by, flat_map}
use Rattle.fs_kinds.specs.declared.placement.Entry.{Entry}
use Rattle.fs_kinds.specs.declared.slot.Slot.{Slot}
use Rattle.fs_board_offers.specs.Offers.{Offers, entry_cost}
use Rattle.fs_board_offers.specs.Parts.{Part, Decision, slots_in_part}
use Rattle.fs_board_offers.specs.Pruning.{breaking_at, is_breakable, least, least_break, is_no_better, is_pruned}
use Rattle.fs_cert_evidence.specs.Widths.{Width}
use Rattle.fs_cert_evidence.specs.Evidence.{pairs_at, widths_of}
use Rattle.fs_model_laws.proofs.Places.{count-map}
use Rattle.fs_board_offers.specs.Breaks.{lesser_of, break_at}
use Rattle.fs_check_certificate.specs.Breaks.{breaks_of, breaks_at, least_in, is_open, is_breakable_at, is_bounded}
use Rattle.fs_board_offers.proofs.LeastCosts.{least_append}
use Rattle.fs_board_offers.proofs.Bounding.{same_bound, same_apart}
use Rattle.fs_check_certificate.proofs.Breaks.{some_break, least_first}

-- ---- what loops over the numbers of witnesses need

pub count_breaks : (k : ℕ) (d : Decision) (breaks : List (List (Option ℕ))) (js : List ℕ)
    → count_by (λ j. is_breakable_at k d (breaks_at breaks j)) js ≡ count_by (is_breakable_at k d) (map (breaks_at breaks) js)
count_breaks k d breaks js = sym (count-map (is_breakable_at k d) (breaks_at breaks) js)

-- ---- a width, and what it costs at these slots to break an execution of it

abbrev pub breaks_on : Offers → List Slot → Width → List (Option ℕ)
breaks_on offers ss w = breaks_of offers ss (widths_of w ss)

module _ (offers : Offers) (w : Width) where
  pub same_least : (part : Part) → least_in part (breaks_on offers (slots_in_part part) w) ≡ least_break offers part w
  same_least [] = refl
  same_least (d ∷ part) =
      least_first offers w d.slot d.decided (least_in part (breaks_on offers (slots_in_part part) w))
      ∙ (ap (lesser_of (least (map (entry_cost offers) (breaking_at offers w d)))) (same_least part)
      ∙ sym (least_append offers (breaking_at offers w d) (flat_map (breaking_at offers w) part)))

-- ---- slot by slot

module _ (offers : Offers) where
  at_width : (ss : List Slot) (k : ℕ) (d : Decision) (w : Width) → slice_get ss k ≡ Some d.slot
      → is_breakable_at k d (breaks_on offers ss w) ≡ is_breakable offers w d
  at_width ss k d w at = ap (is_open d) (got ss k at) ∙ some_break offers w d.slot d.decided
    where
      got : (ss : List Slot) (k : ℕ) → slice_get ss k ≡ Some d.slot → slice_get (breaks_on offers ss w) k ≡ Some (break_at offers d.slot (pairs_at w d.slot))
      got [] k at = absurd (cc)
      got (s ∷ ss) zero at = let same : s ≡ d.slot = cc in ap (λ u. Some (break_at offers u (pairs_at w u))) same
      got (s ∷ ss) (suc k) at = got ss k at

  pub same_pruned : (bound : Option (List Entry)) (part : Part) (ws : List Width)
      → is_bounded offers bound part (map (breaks_on offers (slots_in_part part)) ws) ≡ is_pruned offers bound part ws
  same_pruned bound part ws =
      ap₂ (λ b n. b && is_no_better offers bound part n) (same_apart offers is_breakable_at (breaks_on offers) at_width part ws)
      (same_bound offers part (least_in part) (breaks_on offers (slots_in_part part)) (λ w. same_least offers w part) ws)
