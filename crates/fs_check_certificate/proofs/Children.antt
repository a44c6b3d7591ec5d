-- The children of a part, pushed from the last to the first, and their slots.
use Rattle.std.proofs.Common.{◌≡◌, ℕ, ◌+◌, ◌-◌, ◌<◌, ◌≤◌, Bool, true, false, Option, Some, List, [], ◌∷◌, ◌++◌, map, drop, refl, ap, ap₂, ◌∙◌, sym, arith}
use Rattle.std.specs.Prelude.{filter, get_or, if◌then◌else◌}
use Rattle.std.proofs.lemmas.List.{at_drop_more}
use Rattle.fs_kinds.specs.declared.kind.Kind.{Kind}
use Rattle.fs_kinds.specs.declared.slot.Slot.{Slot}
use Rattle.fs_kinds.specs.Slot.{is_same_slot}
use Rattle.fs_model.specs.declared.test.Test.{Test}
use Rattle.fs_model.specs.Slots.{slots}
use Rattle.fs_board_offers.specs.Offers.{Offer, Offers, is_offered, offer_at, options}
use Rattle.fs_board_offers.specs.Breaks.{all_options}
use Rattle.fs_board_offers.specs.Parts.{Part, decide, child_parts, slots_in_part}
use Rattle.fs_check_certificate.specs.inner.Walks.{AreOfTest}

offered_first : (offer : Offer) (f : Option Kind → Part) (kind : Option Kind) (kinds : List (Option Kind)) → is_offered offer kind ≡ true
    → map f (filter (is_offered offer) (kind ∷ kinds)) ≡ f kind ∷ map f (filter (is_offered offer) kinds)
offered_first offer f kind kinds offered = ap (λ b. map f (if b then kind ∷ filter (is_offered offer) kinds else filter (is_offered offer) kinds)) offered

-- an offered way before those that are there already
pub one_more : (offer : Offer) (f : Option Kind → Part) (way : ℕ) (d : Option Kind) (old : List Part) → 0 < way → way ≤ 11
    → is_offered offer (get_or all_options (way - 1) d) ≡ true
    → f (get_or all_options (way - 1) d) ∷ (map f (filter (is_offered offer) (drop way all_options)) ++ old) ≡ map f (filter (is_offered offer) (drop (way - 1) all_options)) ++ old
one_more offer f way d old some most offered =
    let next : way - 1 + 1 ≡ way = omega arith in
    let first = at_drop_more (λ kinds. map f (filter (is_offered offer) kinds) ++ old) all_options (way - 1) d (omega arith) in
    sym (first
    ∙ (ap (λ n. map f (filter (is_offered offer) (get_or all_options (way - 1) d ∷ drop n all_options)) ++ old) next
    ∙ ap (λ parts. parts ++ old) (offered_first offer f (get_or all_options (way - 1) d) (drop way all_options) offered)))

same_slots : (slot : Slot) (kind : Option Kind) (part : Part) → slots_in_part (decide slot part kind) ≡ slots_in_part part
same_slots slot kind [] = refl
same_slots slot kind (d ∷ part) = ap₂ (λ s ss. s ∷ ss) (same_slot (is_same_slot d.slot slot)) (same_slots slot kind part)
  where
    same_slot : (b : Bool) → (if b then record { slot = d.slot; decided = Some kind } else d).slot ≡ d.slot
    same_slot true = refl
    same_slot false = refl

decided_of_test : (t : Test) (slot : Slot) (part : Part) (parts : List Part) (kinds : List (Option Kind)) → slots_in_part part ≡ slots t → AreOfTest t parts
    → AreOfTest t (map (decide slot part) kinds ++ parts)
decided_of_test t slot part parts [] same others = others
decided_of_test t slot part parts (kind ∷ kinds) same others = (same_slots slot kind part ∙ same, decided_of_test t slot part parts kinds same others)

-- the children have the slots of the test where the part has
pub children_of_test : (t : Test) (offers : Offers) (slot : Slot) (part : Part) (parts : List Part) → slots_in_part part ≡ slots t → AreOfTest t parts
    → AreOfTest t (child_parts offers slot part ++ parts)
children_of_test t offers slot part parts same others = decided_of_test t slot part parts (options (offer_at offers slot)) same others
