-- With rw,rw in every slot nothing is allowed that other placements forbid.
use Rattle.std.proofs.Common.{◌≡◌, true, Option, Some, None, List, [], ◌∷◌, refl, sym}
use Rattle.std.specs.Prelude.{◌↔◌}
use Rattle.std.proofs.lemmas.Bool.{and_from}
use Rattle.fs_kinds.specs.declared.kind.Kind.{Kind}
use Rattle.fs_kinds.specs.declared.kind.Kind.TheVariants.{RR, RW, RRw, WR, WW, WRw, RwR, RwW, RwRw, Tso}
use Rattle.fs_kinds.specs.declared.slot.Slot.{Slot}
use Rattle.fs_kinds.specs.declared.placement.Entry.{Entry}
use Rattle.fs_kinds.specs.Kind.{is_subset}
use Rattle.fs_kinds.specs.Placement.{slots_of, all_with, pairs_kept, is_weaker}
use Rattle.fs_kinds.specs.PriceTable.{PriceTable, IsPriceTable, is_offered, are_offered}
use Rattle.fs_kinds.proofs.Entries.{slots_of-all_with}
use Rattle.fs_model.specs.declared.test.Test.{Test}
use Rattle.fs_model.specs.Slots.{slots}
use Rattle.fs_model.specs.Execution.{Execution}
use Rattle.fs_model.specs.Allows.{Shows, IsPlacement, RefutesAll}
use Rattle.fs_model_laws.specs.Strength.{AllAreRefuted, IsAlwaysAllowed, HasNoAnswer}
use Rattle.fs_model_laws.proofs.Weakening.{kept-at, shows-weaker}

-- rw,rw keeps every pair
kind-below : (kind : Option Kind) → is_subset (pairs_kept kind) (pairs_kept (Some RwRw)) ≡ true
kind-below None = refl
kind-below (Some RR) = refl
kind-below (Some RW) = refl
kind-below (Some RRw) = refl
kind-below (Some WR) = refl
kind-below (Some WW) = refl
kind-below (Some WRw) = refl
kind-below (Some RwR) = refl
kind-below (Some RwW) = refl
kind-below (Some RwRw) = refl
kind-below (Some Tso) = refl

weaker-filled : (p : List Entry) → is_weaker p (all_with (Some RwRw) (slots_of p)) ≡ true
weaker-filled [] = refl
weaker-filled (e ∷ p) = and_from _ _ (kind-below e.kind) (weaker-filled p)

pub filled-shows : (t : Test) (e : Execution) → RefutesAll t e → (p : List Entry) → slots_of p ≡ slots t → Shows t p e
filled-shows t e refutes p same =
    let filled = all_with (Some RwRw) (slots_of p) in
    let same_slots : slots_of p ≡ slots_of filled = sym (slots_of-all_with (Some RwRw) (slots_of p)) in
    shows-weaker t p filled e (kept-at p filled same_slots (weaker-filled p)) (rw same refutes)

pub unanswered : (t : Test) → AllAreRefuted t → (prices : PriceTable) → HasNoAnswer t prices
unanswered t (e, refutes) prices p cheapest = cheapest.forbids (e, filled-shows t e refutes p cheapest.placement.slots)

offered-filled : (prices : PriceTable) (kind : Kind) (ss : List Slot)
    → is_offered prices (Some kind) ≡ true → are_offered prices (all_with (Some kind) ss) ≡ true
offered-filled prices kind [] offered = refl
offered-filled prices kind (s ∷ ss) offered = and_from _ _ offered (offered-filled prices kind ss offered)

-- the placement with rw,rw in every slot
pub placement-filled : (t : Test) (prices : PriceTable) → IsPriceTable prices → IsPlacement t prices (all_with (Some RwRw) (slots t))
placement-filled t prices table = record {
  slots = slots_of-all_with (Some RwRw) (slots t);
  offered = offered-filled prices RwRw (slots t) table.top;
}

pub decided : (t : Test) (prices : PriceTable) → IsPriceTable prices → AllAreRefuted t ↔ IsAlwaysAllowed t prices
decided t prices table = (
  λ (e, refutes) p placement. (e, filled-shows t e refutes p placement.slots),
  λ each. each (all_with (Some RwRw) (slots t)) (placement-filled t prices table),
)
