-- What a placement of FENCEs in their places has where; and that the places rise.
use Rattle.std.proofs.Common.{◌≡◌, ℕ, zero, suc, ◌+◌, ◌<◌, ◌≤◌, List, [], ◌∷◌, ◌++◌, length, map, filter, flat_map, cond, Bool, true, false, ◌&&◌, ◌||◌, Option, None, Some, refl, ap, sym, ◌∙◌, arith, inl, inr}
use Rattle.std.specs.Prelude.{is_some, option_and_then, slice_get}
use Rattle.std.specs.List.{list_all, list_any, find, enumerate_from, range_with_len, slice_index_or}
use Rattle.std.proofs.lemmas.Bool.{or_left, or_right, false≢true, cases_lt}
use Rattle.std.proofs.lemmas.List.Folds.{list_all-append, list_any-append}
use Rattle.std.proofs.lemmas.Option.{slice_get_within}
use Rattle.fs_instr.specs.declared.instr.Instr.{Instr}
use Rattle.fs_kinds.specs.declared.kind.Kind.{Kind}
use Rattle.fs_kinds.specs.declared.placement.Entry.{Entry}
use Rattle.fs_kinds.specs.declared.slot.Slot.{Slot}
use Rattle.fs_kinds.specs.Slot.{is_same_slot, is_before, is_rising}
use Rattle.fs_kinds.specs.Placement.{kind_at, slots_of}
use Rattle.fs_model.specs.declared.test.Test.{Test}
use Rattle.fs_model.specs.Slots.{slot_at}
use Rattle.fs_model_laws.proofs.PlacedPairs.{same_slot, itself}
use Rattle.fs_model_laws.specs.InPlace.{kind_there, is_place, places_in, places, written_at, as_written, memory_kind}

-- ---- a placement with an entry for each of these slots

abbrev pub with_each : (Slot → Option Kind) → List Slot → List Entry
with_each f ss = map (λ s. record { slot = s; kind = f s }) ss

abbrev is_among : Slot → List Slot → Bool
is_among s ss = list_any (λ u. is_same_slot u s) ss

one_each : (f : Slot → Option Kind) (u s : Slot) (us : List Slot) (c : Bool) → is_same_slot u s ≡ c
    → (is_among s (u ∷ us) ≡ false → f s ≡ None)
    → ((is_among s us ≡ false → f s ≡ None) → kind_at s (with_each f us) ≡ f s)
    → option_and_then (λ e. e.kind) (cond c (Some (record { slot = u; kind = f u })) (find (λ e. is_same_slot e.slot s) (with_each f us))) ≡ f s
one_each f u s us true same none rest = ap f (same_slot u s same)
one_each f u s us false same none rest = rest (λ later. none (ap (λ c. c || is_among s us) same ∙ later))

pub at_each : (f : Slot → Option Kind) (ss : List Slot) (s : Slot) → (is_among s ss ≡ false → f s ≡ None)
    → kind_at s (with_each f ss) ≡ f s
at_each f [] s none = sym (none refl)
at_each f (u ∷ us) s none = one_each f u s us (is_same_slot u s) refl none (at_each f us s)

pub slots_of_each : (f : Slot → Option Kind) (ss : List Slot) → slots_of (with_each f ss) ≡ ss
slots_of_each f [] = refl
slots_of_each f (s ∷ ss) = ap (λ us. s ∷ us) (slots_of_each f ss)

-- ---- where a FENCE stands there is a place

module _ (hart : ℕ) (p : ℕ → Bool) (at : ℕ) (passes : p at ≡ true) where
  one_in : (m : ℕ) (rest : List ℕ) (c : Bool) → p m ≡ c → m ≡ at → is_among (slot_at hart at) (map (slot_at hart) (cond c (m ∷ rest) rest)) ≡ true
  one_in m rest true is same =
      let here : is_same_slot (slot_at hart m) (slot_at hart at) ≡ true =
      ap (λ k. is_same_slot (slot_at hart k) (slot_at hart at)) same ∙ itself (slot_at hart at) in
      or_left _ _ here
  one_in m rest false is same = absurd (false≢true (sym is ∙ (ap p same ∙ passes)))

  later_in : (m : ℕ) (rest : List ℕ) (c : Bool) → is_among (slot_at hart at) (map (slot_at hart) rest) ≡ true
      → is_among (slot_at hart at) (map (slot_at hart) (cond c (m ∷ rest) rest)) ≡ true
  later_in m rest true found = or_right _ _ found
  later_in m rest false found = found

  range_in : (m d : ℕ) → m ≤ at → at < m + d
      → is_among (slot_at hart at) (map (slot_at hart) (filter p (range_with_len m d))) ≡ true
  range_in m zero low high = absurd (omega (arith, low, high))
  range_in m (suc d) low high = elim (cases_lt m at) [
    | inl less ↦ later_in m (filter p (range_with_len (m + 1) d)) (p m) (range_in (m + 1) d (omega (arith, less)) (omega (arith, high)))
    | inr more ↦ one_in m (filter p (range_with_len (m + 1) d)) (p m) refl (omega (arith, low, more))
  ]

-- an instruction that is there stands before the end
some_there : (code : List Instr) (at : ℕ) (kind : Kind) → kind_there code at ≡ Some kind → at < length code
some_there code at kind e = by (slice_get code at) refl e
  where
    by : (o : Option Instr) → slice_get code at ≡ o → option_and_then memory_kind o ≡ Some kind → at < length code
    by None is e = absurd (cc)
    by (Some i) is e = slice_get_within code at i is

in_code : (hart : ℕ) (code : List Instr) (at : ℕ) (kind : Kind) → kind_there code at ≡ Some kind
    → is_among (slot_at hart at) (places_in hart code) ≡ true
in_code hart code at kind e =
    let low = some_there code at kind e in
    range_in hart (is_place code) at (ap is_some e) 0 (length code) (omega arith) (omega (arith, low))

abbrev places_from : ℕ → List (List Instr) → List Slot
places_from hart codes = flat_map (λ numbered. places_in numbered.0 numbered.1) (enumerate_from hart codes)

none_is_some : {X : Type 0} (kind : Kind) → None ≡ Some kind → X
none_is_some kind e = absurd (cc)

member_from : (n : ℕ) (codes : List (List Instr)) (k at hart : ℕ) (kind : Kind) → hart ≡ n + k
    → kind_there (slice_index_or codes k []) at ≡ Some kind → is_among (slot_at hart at) (places_from n codes) ≡ true
member_from n [] k at hart kind e there = none_is_some kind there
member_from n (c ∷ cs) zero at hart kind e there =
    let same : n ≡ hart = omega (arith, e) in
    let here : is_among (slot_at hart at) (places_in n c) ≡ true =
    ap (λ h. is_among (slot_at hart at) (places_in h c)) same ∙ in_code hart c at kind there in
    list_any-append (λ u. is_same_slot u (slot_at hart at)) (places_in n c) (places_from (n + 1) cs) ∙ or_left _ _ here
member_from n (c ∷ cs) (suc k) at hart kind e there =
    list_any-append (λ u. is_same_slot u (slot_at hart at)) (places_in n c) (places_from (n + 1) cs)
    ∙ or_right _ _ (member_from (n + 1) cs k at hart kind (omega (arith, e)) there)

nothing_else : (codes : List (List Instr)) (s : Slot) (o : Option Kind) → written_at codes s ≡ o → is_among s (places codes) ≡ false
    → written_at codes s ≡ None
nothing_else codes s None is none = is
nothing_else codes s (Some kind) is none =
    absurd (false≢true (sym none ∙ member_from 0 codes s.hart s.at s.hart kind (omega arith) is))

pub written_is : (t : Test) (s : Slot) → kind_at s (as_written t) ≡ written_at t.codes s
written_is t s = at_each (written_at t.codes) (places t.codes) s (nothing_else t.codes s (written_at t.codes s) refl)

-- ---- the places rise

both_true : (a b : Bool) → a ≡ true → b ≡ true → (a && b) ≡ true
both_true a b p q = rw (p, q) refl

picked-after : (hart at a : ℕ) (ks : List ℕ) (b : Bool) → is_before (slot_at hart at) (slot_at hart a) ≡ true
    → list_all (is_before (slot_at hart at)) (map (slot_at hart) ks) ≡ true
    → list_all (is_before (slot_at hart at)) (map (slot_at hart) (cond b (a ∷ ks) ks)) ≡ true
picked-after hart at a ks true first rest = both_true _ _ first rest
picked-after hart at a ks false first rest = rest

before-at : (hart at a : ℕ) → at < a → is_before (slot_at hart at) (slot_at hart a) ≡ true
before-at hart at a low = grind arith

after : (hart at : ℕ) (p : ℕ → Bool) (a n : ℕ) → at < a
    → list_all (is_before (slot_at hart at)) (map (slot_at hart) (filter p (range_with_len a n))) ≡ true
after hart at p a zero low = refl
after hart at p a (suc n) low =
    picked-after hart at a (filter p (range_with_len (a + 1) n)) (p a) (before-at hart at a low) (after hart at p (a + 1) n (omega arith))

picked-rising : (hart a : ℕ) (ks : List ℕ) (b : Bool) → list_all (is_before (slot_at hart a)) (map (slot_at hart) ks) ≡ true
    → is_rising (map (slot_at hart) ks) ≡ true → is_rising (map (slot_at hart) (cond b (a ∷ ks) ks)) ≡ true
picked-rising hart a ks true first rest = both_true _ _ first rest
picked-rising hart a ks false first rest = rest

rising-here : (hart : ℕ) (p : ℕ → Bool) (a n : ℕ) → is_rising (map (slot_at hart) (filter p (range_with_len a n))) ≡ true
rising-here hart p a zero = refl
rising-here hart p a (suc n) =
    picked-rising hart a (filter p (range_with_len (a + 1) n)) (p a) (after hart a p (a + 1) n (omega arith)) (rising-here hart p (a + 1) n)

-- places of later harts
later-here : (s : Slot) (hart : ℕ) (ks : List ℕ) → s.hart < hart → list_all (is_before s) (map (slot_at hart) ks) ≡ true
later-here s hart [] low = refl
later-here s hart (k ∷ ks) low = both_true _ _ (grind arith) (later-here s hart ks low)

later : (s : Slot) (hart : ℕ) (codes : List (List Instr)) → s.hart < hart → list_all (is_before s) (places_from hart codes) ≡ true
later s hart [] low = refl
later s hart (c ∷ cs) low =
    list_all-append (is_before s) (places_in hart c) (places_from (hart + 1) cs)
    ∙ both_true _ _ (later-here s hart (filter (is_place c) (range_with_len 0 (length c))) low) (later s (hart + 1) cs (omega arith))

rising-before : (hart : ℕ) (ks : List ℕ) (ys : List Slot) → is_rising (map (slot_at hart) ks) ≡ true
    → ((k : ℕ) → list_all (is_before (slot_at hart k)) ys ≡ true) → is_rising ys ≡ true → is_rising (map (slot_at hart) ks ++ ys) ≡ true
rising-before hart [] ys here before there = there
rising-before hart (k ∷ ks) ys here before there =
    let first : list_all (is_before (slot_at hart k)) (map (slot_at hart) ks) ≡ true = grind arith in
    let rest : is_rising (map (slot_at hart) ks) ≡ true = grind arith in
    both_true _ _
    (list_all-append (is_before (slot_at hart k)) (map (slot_at hart) ks) ys ∙ both_true _ _ first (before k))
    (rising-before hart ks ys rest before there)

rising-from : (hart : ℕ) (codes : List (List Instr)) → is_rising (places_from hart codes) ≡ true
rising-from hart [] = refl
rising-from hart (c ∷ cs) =
    rising-before hart (filter (is_place c) (range_with_len 0 (length c))) (places_from (hart + 1) cs)
    (rising-here hart (is_place c) 0 (length c)) (λ k. later (slot_at hart k) (hart + 1) cs (omega arith)) (rising-from (hart + 1) cs)

pub rising-places : (codes : List (List Instr)) → is_rising (places codes) ≡ true
rising-places codes = rising-from 0 codes
