-- When entries have given slots.
use Rattle.std.proofs.Common.{◌≡◌, ℕ, List, [], ◌∷◌, length, Bool, true, refl, ap, sym, ◌∙◌, arith}
use Rattle.std.specs.List.{list_all, zip}
use Rattle.fs_kinds.specs.declared.slot.Slot.{Slot}
use Rattle.fs_kinds.specs.declared.placement.Entry.{Entry}
use Rattle.fs_kinds.specs.Slot.{is_same_slot}
use Rattle.fs_kinds.specs.Placement.{slots_of}

pub same_slot : (s t : Slot) → is_same_slot s t ≡ true → s ≡ t
same_slot s t same =
    let hart : s.hart ≡ t.hart = grind arith in
    let at : s.at ≡ t.at = grind arith in
    let first : s ≡ record s { hart = t.hart } = ap (λ (n : ℕ). record s { hart = n }) hart in
    first ∙ ap (λ (n : ℕ). record t { at = n }) at

pub same_slot-refl : (s : Slot) → is_same_slot s s ≡ true
same_slot-refl s = grind arith

abbrev pub begin_alike : List Entry → List Slot → Bool
begin_alike entries slots = list_all (λ pair. is_same_slot pair.0.slot pair.1) (zip entries slots)

pub slots_of-begin_alike : (entries : List Entry) (slots : List Slot) → length entries ≡ length slots → begin_alike entries slots ≡ true → slots_of entries ≡ slots
slots_of-begin_alike [] [] long alike = refl
slots_of-begin_alike [] (s ∷ slots) long alike = absurd (omega arith)
slots_of-begin_alike (e ∷ entries) [] long alike = absurd (omega arith)
slots_of-begin_alike (e ∷ entries) (s ∷ slots) long alike =
    let first : is_same_slot e.slot s ≡ true = grind arith in
    let rest : begin_alike entries slots ≡ true = grind arith in
    let less : length entries ≡ length slots = omega arith in
    ap (λ t. t ∷ slots_of entries) (same_slot e.slot s first) ∙ ap (λ ss. s ∷ ss) (slots_of-begin_alike entries slots less rest)

begin_alike-slots_of : (entries : List Entry) → begin_alike entries (slots_of entries) ≡ true
begin_alike-slots_of [] = refl
begin_alike-slots_of (e ∷ entries) = rw (same_slot-refl, begin_alike-slots_of entries) refl

pub begin_alike-same : (entries : List Entry) (slots : List Slot) → slots_of entries ≡ slots → begin_alike entries slots ≡ true
begin_alike-same entries slots same = ap (begin_alike entries) (sym same) ∙ begin_alike-slots_of entries
