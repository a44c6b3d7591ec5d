-- Lemmas on placements.
use Rattle.std.proofs.Common.{◌≡◌, ℕ, suc, zero, ◌+◌, ◌*◌, ◌<◌, ◌≤◌, List, [], ◌∷◌, Bool, true, false, Option, Some, None, refl, ap, arith, length, get_or, set}
use Rattle.std.proofs.lemmas.Bool.Decides.{nat_tests}
use Rattle.std.proofs.lemmas.List.Folds.{list_any_none}
use Rattle.std.proofs.lemmas.List.Sums.{fails_before_first}
use Rattle.std.proofs.lemmas.List.Quantifiers.{position-Some}
use Rattle.std.specs.List.{list_all, list_any, find, position, position_or_len}
use Rattle.fs_kinds.specs.declared.kind.Kind.{Kind}
use Rattle.fs_kinds.specs.declared.slot.Slot.{Slot}
use Rattle.fs_kinds.specs.declared.placement.Entry.{Entry}
use Rattle.fs_kinds.specs.Slot.{is_same_slot, is_before, is_rising, IsSlot}
use Rattle.fs_kinds.specs.Placement.{slots_of, all_with, entry_with, with_kind}

pub slots_of-all_with : (kind : Option Kind) (slots : List Slot) → slots_of (all_with kind slots) ≡ slots
slots_of-all_with kind [] = refl
slots_of-all_with kind (s ∷ slots) = ap (λ ss. s ∷ ss) (slots_of-all_with kind slots)

slot-entry_with : (s : Slot) (kind : Option Kind) (e : Entry) → (entry_with s kind e).slot ≡ e.slot
slot-entry_with s kind e = grind arith

pub slots_of-with_kind : (s : Slot) (kind : Option Kind) (p : List Entry) → slots_of (with_kind s kind p) ≡ slots_of p
slots_of-with_kind s kind [] = refl
slots_of-with_kind s kind (e ∷ p) = rw (slot-entry_with s kind e, slots_of-with_kind s kind p)

-- a slot before another isn't the same
not_same-before : (t u s : Slot) → is_before t u ≡ true → is_same_slot t s ≡ true → is_same_slot u s ≡ false
not_same-before t u s before same = grind arith

same-entry_with : (s : Slot) (kind : Option Kind) (e : Entry) → is_same_slot e.slot s ≡ false → entry_with s kind e ≡ e
same-entry_with s kind e other = grind arith

-- no slot of p is the one before them all
with_kind-after : (t s : Slot) (kind : Option Kind) (p : List Entry) → list_all (is_before t) (slots_of p) ≡ true → is_same_slot t s ≡ true → with_kind s kind p ≡ p
with_kind-after t s kind [] all same = refl
with_kind-after t s kind (e ∷ p) all same =
    let first : is_before t e.slot ≡ true = grind arith in
    let rest : list_all (is_before t) (slots_of p) ≡ true = grind arith in
    let kept : entry_with s kind e ≡ e = same-entry_with s kind e (not_same-before t e.slot s first same) in
    rw (kept, with_kind-after t s kind p rest same)

before-each : (t : Slot) (p : List Entry) (i : ℕ) (d : Entry) → list_all (is_before t) (slots_of p) ≡ true → i < length p → is_before t (get_or p i d).slot ≡ true
before-each t [] i d all low = absurd (omega arith)
before-each t (e ∷ p) zero d all low = grind arith
before-each t (e ∷ p) (suc i) d all low =
    let rest : list_all (is_before t) (slots_of p) ≡ true = grind arith in
    let less : i < length p = omega arith in
    before-each t p i d rest less

-- a slot that comes after one that is before s, isn't before s
other-before : (t u s : Slot) → is_before t u ≡ true → is_same_slot u s ≡ true → is_same_slot t s ≡ false
other-before t u s before same = grind arith

-- to write the kind at the slot's entry is to put it at the slot
pub set-entry_with : (s : Slot) (kind : Option Kind) (p : List Entry) (i : ℕ) (d : Entry) → is_rising (slots_of p) ≡ true → i < length p → is_same_slot (get_or p i d).slot s ≡ true → set p i (record { slot = (get_or p i d).slot; kind = kind }) ≡ with_kind s kind p
set-entry_with s kind [] i d rising low same = absurd (omega arith)
set-entry_with s kind (e ∷ p) zero d rising low same =
    let all : list_all (is_before e.slot) (slots_of p) ≡ true = grind arith in
    let kept : with_kind s kind p ≡ p = with_kind-after e.slot s kind p all same in
    rw (kept, same) refl
set-entry_with s kind (e ∷ p) (suc i) d rising low same =
    let all : list_all (is_before e.slot) (slots_of p) ≡ true = grind arith in
    let rest : is_rising (slots_of p) ≡ true = grind arith in
    let less : i < length p = omega arith in
    let other : is_same_slot e.slot s ≡ false = other-before e.slot (get_or p i d).slot s (before-each e.slot p i d all less) same in
    rw (same-entry_with s kind e other, ← set-entry_with s kind p i d rest less same)

-- of two slots of rising ones the first is before the second
pub before-rising : (p : List Entry) (i j : ℕ) (d : Entry) → is_rising (slots_of p) ≡ true → i < j → j < length p → is_before (get_or p i d).slot (get_or p j d).slot ≡ true
before-rising [] i j d rising less low = absurd (omega arith)
before-rising (e ∷ p) i zero d rising less low = absurd (omega arith)
before-rising (e ∷ p) zero (suc j) d rising less low =
    let all : list_all (is_before e.slot) (slots_of p) ≡ true = grind arith in
    before-each e.slot p j d all (omega arith)
before-rising (e ∷ p) (suc i) (suc j) d rising less low =
    let rest : is_rising (slots_of p) ≡ true = grind arith in
    before-rising p i j d rest (omega arith) (omega arith)

-- what an index past the end reads
abbrev pub blank : Entry
blank = record { slot = record { hart = 0; at = 0 }; kind = None }

-- a slot has at least k slots below it
abbrev pub IsCounted : ℕ → Slot → Type 0
IsCounted k s = (k ≤ 256 * s.hart + s.at) × IsSlot s

number-before : (s t : Slot) → is_before s t ≡ true → s.at < 256 → 256 * s.hart + s.at < 256 * t.hart + t.at
number-before s t before low = grind (arith, nat_tests)

-- at most as many slots stand before one as there are slots below it
pub count-before : (p : List Entry) (i : ℕ) (d : Entry) → is_rising (slots_of p) ≡ true → i < length p → ((k : ℕ) → suc k ≡ i → IsCounted k (get_or p k d).slot) → IsSlot (get_or p i d).slot → IsCounted i (get_or p i d).slot
count-before p zero d rising low so_far is = (omega arith, is)
count-before p (suc k) d rising low so_far is =
    let f : IsCounted k (get_or p k d).slot = so_far k refl in
    let before = before-rising p k (suc k) d rising (omega arith) low in
    let more = number-before (get_or p k d).slot (get_or p (suc k) d).slot before f.1.1 in
    (omega arith, is)

-- what `position` says of `find` and of whether there is one at all
past_end : {X : Type 0} (test : X → Bool) (xs : List X) → position test xs ≡ None → length xs ≤ position_or_len test xs
past_end test xs none = grind (arith, nat_tests)

pub list_any-none : {X : Type 0} (test : X → Bool) (xs : List X) → position test xs ≡ None → list_any test xs ≡ false
list_any-none test xs none =
    let past : length xs ≤ position_or_len test xs = past_end test xs none in
    list_any_none test xs (λ k d low. fails_before_first test xs k d (omega arith))

find-no_list_any : {X : Type 0} (test : X → Bool) (xs : List X) → list_any test xs ≡ false → find test xs ≡ None
find-no_list_any test [] none = refl
find-no_list_any test (x ∷ xs) none =
    let here : test x ≡ false = grind arith in
    let rest : list_any test xs ≡ false = grind arith in
    rw here (find-no_list_any test xs rest)

pub find-none : {X : Type 0} (test : X → Bool) (xs : List X) → position test xs ≡ None → find test xs ≡ None
find-none test xs none = find-no_list_any test xs (list_any-none test xs none)

find-first : {X : Type 0} (test : X → Bool) (xs : List X) (i : ℕ) (d : X) → i < length xs → test (get_or xs i d) ≡ true → ((k : ℕ) → k < i → test (get_or xs k d) ≡ false) → find test xs ≡ Some (get_or xs i d)
find-first test [] i d low here before = absurd (omega arith)
find-first test (x ∷ xs) zero d low here before = rw here refl
find-first test (x ∷ xs) (suc i) d low here before =
    let first : test x ≡ false = before 0 (omega arith) in
    rw first (find-first test xs i d (omega arith) here (λ k less. before (suc k) (omega arith)))

pub find-some : {X : Type 0} (test : X → Bool) (xs : List X) (i : ℕ) (d : X) → position test xs ≡ Some i → find test xs ≡ Some (get_or xs i d)
find-some test xs i d some =
    let found = position-Some test xs i d some in
    find-first test xs i d found.0 found.1 found.2
