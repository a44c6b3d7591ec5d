-- Entries put one by one into a placement with nothing.
use Rattle.std.proofs.Common.{◌≡◌, ℕ, zero, suc, ◌<◌, true, false, Option, None, List, [], ◌∷◌, ◌++◌, length, take, drop, get_or, refl, ap₂, arith}
use Rattle.std.proofs.lemmas.Bool.{and_parts}
use Rattle.std.proofs.lemmas.Bool.Decides.{nat_tests}
use Rattle.std.specs.List.{list_all}
use Rattle.fs_kinds.specs.declared.kind.Kind.{Kind}
use Rattle.fs_kinds.specs.declared.placement.Entry.{Entry}
use Rattle.fs_kinds.specs.declared.slot.Slot.{Slot}
use Rattle.fs_kinds.specs.Placement.{slots_of, all_with, has_slot, with_kind, entry_with}
use Rattle.fs_kinds.specs.Slot.{is_same_slot, is_before, is_rising}
use Rattle.fs_kinds.proofs.Entries.{before-rising}
use Rattle.fs_model_laws.proofs.PlacedPairs.{itself, or_left, or_right}
use Rattle.fs_model_laws.proofs.Ranked.{entry_of}

later-slot : (s u : Slot) → is_before s u ≡ true → is_same_slot u s ≡ false
later-slot s u before = grind (arith, nat_tests)

none-with : (s u : Slot) (kind : Option Kind) → is_before s u ≡ true → entry_with s kind (entry_of u None) ≡ entry_of u None
none-with s u kind before = rw (later-slot s u before) refl

rest-same : (s : Slot) (kind : Option Kind) (us : List Slot) → list_all (is_before s) us ≡ true
    → with_kind s kind (all_with None us) ≡ all_with None us
rest-same s kind [] all = refl
rest-same s kind (u ∷ us) all =
    let parts = and_parts (is_before s u) (list_all (is_before s) us) all in
    ap₂ (λ e p. e ∷ p) (none-with s u kind parts.0) (rest-same s kind us parts.1)

this-with : (e : Entry) → entry_with e.slot e.kind (entry_of e.slot None) ≡ e
this-with e = rw (itself e.slot) refl

earlier-slot : (s u : Slot) → is_before s u ≡ true → is_same_slot s u ≡ false
earlier-slot s u before = grind (arith, nat_tests)

earlier-with : (e : Entry) (u : Slot) (kind : Option Kind) → is_before e.slot u ≡ true → entry_with u kind e ≡ e
earlier-with e u kind before = rw (earlier-slot e.slot u before) refl

-- these with nothing behind the first few
abbrev pub filled_so_far : ℕ → List Entry → List Entry
filled_so_far i p = take i p ++ drop i (all_with None (slots_of p))

pub filled-more : (p : List Entry) (i : ℕ) (d : Entry) → is_rising (slots_of p) ≡ true → i < length p
    → with_kind (get_or p i d).slot (get_or p i d).kind (filled_so_far i p) ≡ filled_so_far (suc i) p
filled-more [] i d rising low = absurd (omega (arith, low))
filled-more (e ∷ p) zero d rising low =
    let parts = and_parts (list_all (is_before e.slot) (slots_of p)) (is_rising (slots_of p)) rising in
    ap₂ (λ f q. f ∷ q) (this-with e) (rest-same e.slot e.kind (slots_of p) parts.0)
filled-more (e ∷ p) (suc i) d rising low =
    let parts = and_parts (list_all (is_before e.slot) (slots_of p)) (is_rising (slots_of p)) rising in
    let before = before-rising (e ∷ p) 0 (suc i) d rising (omega arith) low in
    ap₂ (λ f q. f ∷ q) (earlier-with e (get_or p i d).slot (get_or p i d).kind before) (filled-more p i d parts.1 (omega (arith, low)))

pub has-next : (p : List Entry) (i : ℕ) (d : Entry) → i < length p → has_slot (get_or p i d).slot (filled_so_far i p) ≡ true
has-next [] i d low = absurd (omega (arith, low))
has-next (e ∷ p) zero d low = or_left (is_same_slot e.slot e.slot) (has_slot e.slot (all_with None (slots_of p))) (itself e.slot)
has-next (e ∷ p) (suc i) d low =
    or_right (is_same_slot e.slot (get_or p i d).slot) (has_slot (get_or p i d).slot (filled_so_far i p)) (has-next p i d (omega (arith, low)))
