-- What is decided, put into a placement slot by slot, and slots that rise.
use Rattle.std.proofs.Common.{◌≡◌, ℕ, zero, suc, ◌+◌, ◌<◌, ◌≤◌, true, false, ◌||◌, Option, None, Some, unwrap_or, List, [], ◌∷◌, map, length, drop, take, refl, ap, ap₂, ◌∙◌, arith}
use Rattle.std.specs.Prelude.{if◌then◌else◌, get_or, is_none}
use Rattle.std.specs.List.{find, list_all}
use Rattle.std.proofs.lemmas.Bool.{and_parts}
use Rattle.std.proofs.lemmas.Bool.Decides.{nat_tests}
use Rattle.fs_kinds.specs.declared.kind.Kind.{Kind}
use Rattle.fs_kinds.specs.declared.placement.Entry.{Entry}
use Rattle.fs_kinds.specs.declared.slot.Slot.{Slot}
use Rattle.fs_kinds.specs.Placement.{all_with, has_slot, with_kind}
use Rattle.fs_kinds.specs.Slot.{is_same_slot, is_before, is_rising}
use Rattle.fs_board_offers.specs.Parts.{Part, Decision, decide, filled_with, slots_in_part}
use Rattle.std.proofs.lemmas.List.{take_all}
use Rattle.fs_model_laws.proofs.PlacedPairs.{itself}
use Rattle.fs_board_offers.proofs.PartsOfTests.{slots-decide}
use Rattle.fs_board.specs.inner.Fills.{put_kind, put_at, put_all}

-- ---- a slot that isn't there

pub put_nowhere : (s : Slot) (kind : Option Kind) (p : List Entry) → has_slot s p ≡ false → with_kind s kind p ≡ p
put_nowhere s kind [] none = refl
put_nowhere s kind (e ∷ p) none =
    elim (is_same_slot e.slot s) as (λ b. (b || has_slot s p) ≡ false → ((if b then record { slot = e.slot; kind = kind } else e) ∷ with_kind s kind p) ≡ e ∷ p) [
      | true ↦ λ h. absurd (cc)
      | false ↦ λ h. ap (λ q. e ∷ q) (put_nowhere s kind p h)
    ] none

-- ---- what is still to be put

pub put_drop : (part : Part) (i : ℕ) (d : Decision) (p : List Entry) → i < length part
    → put_all (drop i part) p ≡ put_all (drop (i + 1) part) (put_at (get_or part i d) p)
put_drop [] i d p l = absurd (omega arith)
put_drop (x ∷ xs) zero d p l = refl
put_drop (x ∷ xs) (suc i) d p l = let e : suc i + 1 ≡ suc (i + 1) = omega arith in rw e (put_drop xs i d p (omega arith))

pub put_end : (part : Part) (i : ℕ) (p : List Entry) → length part ≤ i → put_all (drop i part) p ≡ p
put_end [] zero p l = refl
put_end [] (suc i) p l = refl
put_end (d ∷ part) zero p l = absurd (omega arith)
put_end (d ∷ part) (suc i) p l = put_end part i p (omega arith)

-- ---- the first undecided slot

pub find_drop : (part : Part) (i : ℕ) (d : Decision) → i < length part
    → find (λ x. is_none x.decided) (drop i part)
    ≡ (if is_none (get_or part i d).decided then Some (get_or part i d) else find (λ x. is_none x.decided) (drop (i + 1) part))
find_drop [] i d l = absurd (omega arith)
find_drop (x ∷ xs) zero d l = refl
find_drop (x ∷ xs) (suc i) d l = let e : suc i + 1 ≡ suc (i + 1) = omega arith in rw e (find_drop xs i d (omega arith))

-- ---- rising slots

-- a slot that comes later is another
later : (s u : Slot) → is_before s u ≡ true → is_same_slot s u ≡ false
later s u before = grind (arith, nat_tests)

earlier : (s u : Slot) → is_before s u ≡ true → is_same_slot u s ≡ false
earlier s u before = grind (arith, nat_tests)

-- putting something at later slots leaves the first one as it is
put_after : (e : Entry) (part : Part) (p : List Entry) → list_all (is_before e.slot) (slots_in_part part) ≡ true
    → put_all part (e ∷ p) ≡ e ∷ put_all part p
put_after e [] p after = refl
put_after e (d ∷ part) p after =
    let parts = and_parts (is_before e.slot d.slot) _ after in
    ap (put_all part) (put_one d.decided) ∙ put_after e part (put_at d p) parts.1
  where
    put_one : (decided : Option (Option Kind)) → put_kind d.slot decided (e ∷ p) ≡ e ∷ put_kind d.slot decided p
    put_one None = refl
    put_one (Some kind) =
        ap (λ b. (if b then record { slot = e.slot; kind = kind } else e) ∷ with_kind d.slot kind p) (later e.slot d.slot (and_parts (is_before e.slot d.slot) _ after).0)

-- what is put at a slot isn't put at later ones
none_after : (s : Slot) (put kind : Option Kind) (ss : List Slot) → list_all (is_before s) ss ≡ true
    → with_kind s put (all_with kind ss) ≡ all_with kind ss
none_after s put kind [] after = refl
none_after s put kind (u ∷ ss) after =
    let parts = and_parts (is_before s u) _ after in
    ap₂ (λ b p. (if b then record { slot = u; kind = put } else record { slot = u; kind = kind }) ∷ p) (earlier s u parts.0) (none_after s put kind ss parts.1)

pub filled : (kind : Option Kind) (part : Part) → is_rising (slots_in_part part) ≡ true
    → put_all part (all_with kind (slots_in_part part)) ≡ filled_with kind part
filled kind [] rising = refl
filled kind (d ∷ part) rising =
    let parts = and_parts (list_all (is_before d.slot) (slots_in_part part)) _ rising in
    ap (put_all part) (put_first d.decided)
    ∙ (put_after (record { slot = d.slot; kind = unwrap_or d.decided kind }) part (all_with kind (slots_in_part part)) parts.0
    ∙ ap (λ p. record { slot = d.slot; kind = unwrap_or d.decided kind } ∷ p) (filled kind part parts.1))
  where
    rest : List Entry
    rest = all_with kind (slots_in_part part)

    put_first : (decided : Option (Option Kind))
        → put_kind d.slot decided (record { slot = d.slot; kind = kind } ∷ rest) ≡ record { slot = d.slot; kind = unwrap_or decided kind } ∷ rest
    put_first None = refl
    put_first (Some put) = ap₂ (λ b p. (if b then record { slot = d.slot; kind = put } else record { slot = d.slot; kind = kind }) ∷ p) (itself d.slot)
        (none_after d.slot put kind (slots_in_part part) (and_parts (list_all (is_before d.slot) (slots_in_part part)) _ rising).0)

-- ---- slots of parts

slots_undecided : (ss : List Slot) → slots_in_part (map (λ slot. record { slot = slot; decided = None }) ss) ≡ ss
slots_undecided [] = refl
slots_undecided (s ∷ ss) = ap (λ us. s ∷ us) (slots_undecided ss)

pub rising_decided : (slot : Slot) (kind : Option Kind) (part made : Part) (i : ℕ) → made ≡ decide slot (take i part) kind → length part ≤ i
    → is_rising (slots_in_part part) ≡ true → is_rising (slots_in_part made) ≡ true
rising_decided slot kind part made i is past rising =
    ap (λ p. is_rising (slots_in_part p)) (is ∙ ap (λ p. decide slot p kind) (take_all i part past)) ∙ (ap is_rising (slots-decide slot kind part) ∙ rising)

pub rising_undecided : (ss : List Slot) (made : Part) (i : ℕ) → made ≡ map (λ slot. record { slot = slot; decided = None }) (take i ss) → length ss ≤ i
    → is_rising ss ≡ true → is_rising (slots_in_part made) ≡ true
rising_undecided ss made i is past rising =
    ap (λ p. is_rising (slots_in_part p)) (is ∙ ap (map (λ slot. record { slot = slot; decided = None })) (take_all i ss past)) ∙ (ap is_rising (slots_undecided ss) ∙ rising)
