-- A placement under a pruned part allows the outcome, or is no better than the bound.
use Rattle.std.proofs.Common.{◌≡◌, ◌⊎◌, true, Option, None, List, [], ◌∷◌, map, inl, inr, refl, ap, ◌∙◌}
use Rattle.std.specs.List.{All, AllByRecursion}
use Rattle.std.proofs.lemmas.Bool.{false≢true, cases_Bool}
use Rattle.std.proofs.lemmas.List.Elements.{All-head, All-tail}
use Rattle.fs_kinds.specs.declared.kind.Kind.{Kind}
use Rattle.fs_kinds.specs.declared.placement.Entry.{Entry}
use Rattle.fs_kinds.specs.Placement.{slots_of}
use Rattle.fs_board_offers.specs.Offers.{Offers, are_offered}
use Rattle.fs_kinds.specs.Slot.{is_rising}
use Rattle.fs_model.specs.declared.test.Test.{Test}
use Rattle.fs_model.specs.Execution.{Execution}
use Rattle.fs_model.specs.Allows.{Shows, Allows}
use Rattle.fs_cert_evidence.specs.Widths.{width, is_within_width, IsExactWidth}
use Rattle.fs_board_offers.specs.Parts.{Part, floor, filled_with, is_under, slots_in_part}
use Rattle.fs_board_offers.specs.Pruning.{is_pruned}
use Rattle.fs_model_laws.proofs.ExactWidths.{exact}
use Rattle.fs_model_laws.proofs.Weakening.{execution-weaker}
use Rattle.fs_board_offers.specs.Bounds.{IsNoBetter}
use Rattle.fs_board_offers.proofs.Broken.{IsBroken, broken-no-better}
use Rattle.fs_board_offers.proofs.Floors.{slots-under}

pub slots_of-filled_with : (kind : Option Kind) (part : Part) → slots_of (filled_with kind part) ≡ slots_in_part part
slots_of-filled_with kind [] = refl
slots_of-filled_with kind (d ∷ part) = ap (λ ss. d.slot ∷ ss) (slots_of-filled_with kind part)

-- a completion of a part whose slots rise, as the floor is, has rising slots
pub rising-filled : (kind : Option Kind) (part : Part) → is_rising (slots_in_part part) ≡ true
    → is_rising (slots_of (filled_with kind part)) ≡ true
rising-filled kind part rising = ap is_rising (slots_of-filled_with kind part) ∙ rising

-- the width of an execution with the floor's fences is exact
pub exact-under : (t : Test) (p : List Entry) (e : Execution) → Shows t p e → IsExactWidth t e
exact-under t p e shown = exact t e (execution-weaker t [] p e (λ s pair kept. absurd (false≢true kept)) shown.execution)

-- the execution shows the outcome with the other placement too, or is broken by it
shown-or-broken : (t : Test) (part : Part) (q : List Entry) (e : Execution) → is_rising (slots_in_part part) ≡ true
    → slots_of q ≡ slots_in_part part → Shows t (floor part) e → Shows t q e ⊎ IsBroken part q (width t e)
shown-or-broken t part q e rising same shown = elim (cases_Bool (is_within_width t e q)) [
  | inl within ↦ inl (record { execution = (exact_width q (ap is_rising same ∙ rising)).0 within; outcome = shown.outcome })
  | inr broken ↦ inr (record {
    floor = (exact_width (floor part) (rising-filled None part rising)).1 shown.execution;
    broken = broken;
  })
]
  where
    exact_width : IsExactWidth t e
    exact_width = exact-under t (floor part) e shown

module _ (t : Test) (part : Part) (q : List Entry) where
  allowed-or-broken : is_rising (slots_in_part part) ≡ true → slots_of q ≡ slots_in_part part → (es : List Execution) → All (Shows t (floor part)) es
      → Allows t q ⊎ AllByRecursion (IsBroken part q) (map (width t) es)
  allowed-or-broken rising same [] each = inr tt
  allowed-or-broken rising same (e ∷ es) each =
      elim (shown-or-broken t part q e rising same (All-head (Shows t (floor part)) e es each)) [
        | inl shown ↦ inl (e, shown)
        | inr broken ↦ elim (allowed-or-broken rising same es (All-tail (Shows t (floor part)) e es each)) [
          | inl allowed ↦ inl allowed
          | inr rest ↦ inr (broken, rest)
        ]
      ]

pub bounded : (t : Test) (offers : Offers) (bound : Option (List Entry)) (part : Part) (es : List Execution) (q : List Entry)
    → is_rising (slots_in_part part) ≡ true → All (Shows t (floor part)) es → is_pruned offers bound part (map (width t) es) ≡ true
    → are_offered offers q ≡ true → is_under part q ≡ true → Allows t q ⊎ IsNoBetter offers bound q
bounded t offers bound part es q rising shown pruned offered under =
    elim (allowed-or-broken t part q rising (slots-under part q under) es shown) [
      | inl allowed ↦ inl allowed
      | inr each ↦ inr (broken-no-better offers bound part q under offered (map (width t) es) each pruned)
    ]
