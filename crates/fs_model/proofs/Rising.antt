-- The slots of a test rise.
use Rattle.std.proofs.Common.{◌≡◌, ℕ, zero, suc, ◌+◌, ◌<◌, List, [], ◌∷◌, ◌++◌, length, map, filter, flat_map, cond, Bool, true, false, ◌&&◌, refl, ◌∙◌, arith}
use Rattle.std.specs.List.{list_all, enumerate_from, range_with_len}
use Rattle.std.proofs.lemmas.List.Folds.{list_all-append}
use Rattle.fs_instr.specs.declared.instr.Instr.{Instr}
use Rattle.fs_kinds.specs.declared.slot.Slot.{Slot}
use Rattle.fs_kinds.specs.Slot.{is_before, is_rising}
use Rattle.fs_model.specs.Slots.{slot_at, slots_in, is_slot}

both_true : (a b : Bool) → a ≡ true → b ≡ true → (a && b) ≡ true
both_true a b p q = rw (p, q) refl

-- the numbers from a on that pass come after an earlier one
picked-after : (hart at a : ℕ) (ks : List ℕ) (b : Bool) → is_before (slot_at hart at) (slot_at hart a) ≡ true → list_all (is_before (slot_at hart at)) (map (slot_at hart) ks) ≡ true → list_all (is_before (slot_at hart at)) (map (slot_at hart) (cond b (a ∷ ks) ks)) ≡ true
picked-after hart at a ks true first rest = both_true _ _ first rest
picked-after hart at a ks false first rest = rest

before-at : (hart at a : ℕ) → at < a → is_before (slot_at hart at) (slot_at hart a) ≡ true
before-at hart at a low = grind arith

after : (hart at : ℕ) (p : ℕ → Bool) (a n : ℕ) → at < a → list_all (is_before (slot_at hart at)) (map (slot_at hart) (filter p (range_with_len a n))) ≡ true
after hart at p a zero low = refl
after hart at p a (suc n) low =
    picked-after hart at a (filter p (range_with_len (a + 1) n)) (p a) (before-at hart at a low) (after hart at p (a + 1) n (omega arith))

picked-rising : (hart a : ℕ) (ks : List ℕ) (b : Bool) → list_all (is_before (slot_at hart a)) (map (slot_at hart) ks) ≡ true → is_rising (map (slot_at hart) ks) ≡ true → is_rising (map (slot_at hart) (cond b (a ∷ ks) ks)) ≡ true
picked-rising hart a ks true first rest = both_true _ _ first rest
picked-rising hart a ks false first rest = rest

rising-here : (hart : ℕ) (p : ℕ → Bool) (a n : ℕ) → is_rising (map (slot_at hart) (filter p (range_with_len a n))) ≡ true
rising-here hart p a zero = refl
rising-here hart p a (suc n) =
    picked-rising hart a (filter p (range_with_len (a + 1) n)) (p a) (after hart a p (a + 1) n (omega arith)) (rising-here hart p (a + 1) n)

-- slots of later harts
later-here : (s : Slot) (hart : ℕ) (ks : List ℕ) → s.hart < hart → list_all (is_before s) (map (slot_at hart) ks) ≡ true
later-here s hart [] low = refl
later-here s hart (k ∷ ks) low = both_true _ _ (grind arith) (later-here s hart ks low)

abbrev slots_from : ℕ → List (List Instr) → List Slot
slots_from hart codes = flat_map (λ numbered. slots_in numbered.0 numbered.1) (enumerate_from hart codes)

later : (s : Slot) (hart : ℕ) (codes : List (List Instr)) → s.hart < hart → list_all (is_before s) (slots_from hart codes) ≡ true
later s hart [] low = refl
later s hart (c ∷ cs) low =
    list_all-append (is_before s) (slots_in hart c) (slots_from (hart + 1) cs)
    ∙ both_true _ _ (later-here s hart (filter (is_slot c) (range_with_len 0 (length c))) low) (later s (hart + 1) cs (omega arith))

rising-before : (hart : ℕ) (ks : List ℕ) (ys : List Slot) → is_rising (map (slot_at hart) ks) ≡ true → ((k : ℕ) → list_all (is_before (slot_at hart k)) ys ≡ true) → is_rising ys ≡ true → is_rising (map (slot_at hart) ks ++ ys) ≡ true
rising-before hart [] ys here before there = there
rising-before hart (k ∷ ks) ys here before there =
    let first : list_all (is_before (slot_at hart k)) (map (slot_at hart) ks) ≡ true = grind arith in
    let rest : is_rising (map (slot_at hart) ks) ≡ true = grind arith in
    both_true _ _
    (list_all-append (is_before (slot_at hart k)) (map (slot_at hart) ks) ys ∙ both_true _ _ first (before k))
    (rising-before hart ks ys rest before there)

pub rising-slots_from : (hart : ℕ) (codes : List (List Instr)) → is_rising (flat_map (λ numbered. slots_in numbered.0 numbered.1) (enumerate_from hart codes)) ≡ true
rising-slots_from hart [] = refl
rising-slots_from hart (c ∷ cs) =
    rising-before hart (filter (is_slot c) (range_with_len 0 (length c))) (slots_from (hart + 1) cs)
    (rising-here hart (is_slot c) 0 (length c)) (λ k. later (slot_at hart k) (hart + 1) cs (omega arith)) (rising-slots_from (hart + 1) cs)
