-- Lemmas on maps from slots.
use Rattle.std.proofs.Common.{◌≡◌, ℕ, List, [], ◌∷◌, true, ◌&&◌, ◌==◌, Some, Ordering, Less, Equal, Greater, refl, arith, ap, ◌∙◌, if◌then◌else◌}
use Rattle.std.specs.BTreeMap.{BTreeMap, get, is_at}
use Rattle.std.specs.Map.{lookup}
use Rattle.std.specs.Ordering.{is_eq, nat_cmp, ordering_then}
use Rattle.std.proofs.lemmas.Bool.Decides.{nat_tests}
use Rattle.fs_kinds.specs.declared.slot.Slot.{Slot}
use Rattle.fs_kinds.specs.Slot.{is_same_slot}
use Rattle.fs_kinds.specs.contracts.slot.SlotOrd.TheImpl.{cmp-value}

abbrev slot_at : ℕ → ℕ → Slot
slot_at h a = record { hart = h; at = a }

eq-then : (o p : Ordering) → is_eq (ordering_then o p) ≡ (is_eq o && is_eq p)
eq-then Less p = refl
eq-then Equal p = refl
eq-then Greater p = refl

eq-nat : (a b : ℕ) → is_eq (nat_cmp a b) ≡ (a == b)
eq-nat a b = grind (arith, nat_tests)

same-order : (s t : Slot) → is_eq (cmp-value.it s t) ≡ is_same_slot s t
same-order s t = eq-then (nat_cmp s.hart t.hart) (nat_cmp s.at t.at) ∙ rw (eq-nat s.hart t.hart, eq-nat s.at t.at) refl

lookup-get : (s : Slot) (es : List (Slot × ℕ)) → lookup (is_at (cmp-value.it s)) es ≡ lookup (is_same_slot s) es
lookup-get s [] = refl
lookup-get s (e ∷ es) = rw (same-order s e.0, lookup-get s es) refl

-- what `insert` does to a look-up
pub lookup-inserted : (s t : Slot) (n : ℕ) (old new : BTreeMap Slot ℕ) → get cmp-value.it new s ≡ (if is_at (cmp-value.it t) s then Some n else get cmp-value.it old s) → lookup (is_same_slot s) new.entries ≡ (if is_same_slot t s then Some n else lookup (is_same_slot s) old.entries)
lookup-inserted s t n old new updates =
    rw (← lookup-get s new.entries, ← lookup-get s old.entries, ← same-order t s) updates

pub same_slot : (s t : Slot) → is_same_slot s t ≡ true → s ≡ t
same_slot s t same =
    let hart : s.hart ≡ t.hart = grind (arith, nat_tests) in
    let at : s.at ≡ t.at = grind (arith, nat_tests) in
    ap (λ h. slot_at h s.at) hart ∙ ap (slot_at t.hart) at

pub is_same_slot-refl : (s : Slot) → is_same_slot s s ≡ true
is_same_slot-refl s = grind (arith, nat_tests)
