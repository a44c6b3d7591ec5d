-- A placement that FENCE words name has the slots of the test, and only kinds that have a price.
use Rattle.std.proofs.Common.{◌≡◌, ℕ, List, [], ◌∷◌, Bool, true, false, ◌&&◌, Option, None, Some, IfSome, IsTrue, unwrap_or, is_some, refl, sym, ap, ◌∙◌, arith, if◌then◌else◌}
use Rattle.fs_kinds.specs.declared.kind.Kind.{Kind}
use Rattle.fs_kinds.specs.declared.slot.Slot.{Slot}
use Rattle.fs_kinds.specs.declared.placement.Entry.{Entry}
use Rattle.fs_kinds.specs.Placement.{slots_of, all_with, with_kind, entry_with}
use Rattle.fs_kinds.specs.PriceTable.{PriceTable, price_of, is_offered, are_offered}
use Rattle.fs_kinds.specs.Slot.{is_same_slot}
use Rattle.fs_model.specs.Placed.{fits, placed, IsPlaced}

pub slots_of-all_with : (slots : List Slot) → slots_of (all_with None slots) ≡ slots
slots_of-all_with [] = refl
slots_of-all_with (s ∷ slots) = ap (λ ss. s ∷ ss) (slots_of-all_with slots)

slot-entry_with : (s : Slot) (kind : Option Kind) (e : Entry) → (entry_with s kind e).slot ≡ e.slot
slot-entry_with s kind e = at (is_same_slot e.slot s)
  where
    at : (b : Bool) → (if b then record { slot = e.slot; kind = kind } else e).slot ≡ e.slot
    at true = refl
    at false = refl

pub slots_of-with_kind : (s : Slot) (kind : Option Kind) (p : List Entry) → slots_of (with_kind s kind p) ≡ slots_of p
slots_of-with_kind s kind [] = refl
slots_of-with_kind s kind (e ∷ p) = rw (slot-entry_with s kind e, slots_of-with_kind s kind p)

-- how many values there are
count : {A : Type 0} → Option A → ℕ
count None = 0
count (Some x) = 1

-- where the choice is a value, the test passed and the value is that of the first case
if_some : {A : Type 0} (b : Bool) (o : Option A) (x : A) → (if b then o else None) ≡ Some x → (b ≡ true) × (o ≡ Some x)
unfolding count
if_some true o x e = (refl, e)
if_some false o x e = let n : 0 ≡ 1 = ap count e in absurd (omega (arith, n))

pub and_left : (a b : Bool) → a && b ≡ true → a ≡ true
and_left true b e = refl
and_left false b e = e

slots_of-placed : (prices : Option PriceTable) (p : List Entry) (fences : List (Slot × Kind)) (q : List Entry)
    → placed prices p fences ≡ Some q → slots_of q ≡ slots_of p
slots_of-placed prices p [] q e = ap (λ o. slots_of (unwrap_or o p)) (sym e)
slots_of-placed prices p (fence ∷ fences) q e =
    let step = if_some (fits prices p fence) (placed prices (with_kind fence.0 (Some fence.1) p) fences) q e in
    slots_of-placed prices (with_kind fence.0 (Some fence.1) p) fences q step.1 ∙ slots_of-with_kind fence.0 (Some fence.1) p

pub slots_of-IsPlaced : (prices : Option PriceTable) (slots : List Slot) (words : List (List ℕ)) (p : List Entry)
    → IsPlaced prices slots words (Some p) → slots_of p ≡ slots
slots_of-IsPlaced prices slots words p h = slots_of-placed prices (all_with None slots) h.0 p h.2 ∙ slots_of-all_with slots

pub offered-all_with : (t : PriceTable) (slots : List Slot) → are_offered t (all_with None slots) ≡ true
offered-all_with t [] = refl
offered-all_with t (s ∷ slots) = offered-all_with t slots

both_true : (a b : Bool) → a ≡ true → b ≡ true → a && b ≡ true
both_true a b e h = rw (e, h) refl

right_true : (a b : Bool) → a && b ≡ true → b ≡ true
right_true true b e = e
right_true false b e = elim b as (λ c. c ≡ true) [ true ↦ refl | false ↦ e ]

offered-entry_with : (t : PriceTable) (s : Slot) (kind : Kind) (e : Entry) → is_some (price_of t kind) ≡ true → is_offered t e.kind ≡ true
    → is_offered t (entry_with s (Some kind) e).kind ≡ true
offered-entry_with t s kind e new old = at (is_same_slot e.slot s)
  where
    at : (b : Bool) → is_offered t (if b then record { slot = e.slot; kind = Some kind } else e).kind ≡ true
    at true = new
    at false = old

pub offered-with_kind : (t : PriceTable) (s : Slot) (kind : Kind) (p : List Entry) → is_some (price_of t kind) ≡ true → are_offered t p ≡ true
    → are_offered t (with_kind s (Some kind) p) ≡ true
offered-with_kind t s kind [] new old = refl
offered-with_kind t s kind (e ∷ p) new old =
    both_true (is_offered t (entry_with s (Some kind) e).kind) (are_offered t (with_kind s (Some kind) p))
    (offered-entry_with t s kind e new (and_left (is_offered t e.kind) (are_offered t p) old))
    (offered-with_kind t s kind p new (right_true (is_offered t e.kind) (are_offered t p) old))

offered-placed : (t : PriceTable) (p : List Entry) (fences : List (Slot × Kind)) (q : List Entry)
    → are_offered t p ≡ true → placed (Some t) p fences ≡ Some q → are_offered t q ≡ true
offered-placed t p [] q h e = ap (λ o. are_offered t (unwrap_or o p)) (sym e) ∙ h
offered-placed t p (fence ∷ fences) q h e =
    let step = if_some (fits (Some t) p fence) (placed (Some t) (with_kind fence.0 (Some fence.1) p) fences) q e in
    let priced : is_some (price_of t fence.1) ≡ true = and_left _ _ step.0 in
    offered-placed t (with_kind fence.0 (Some fence.1) p) fences q (offered-with_kind t fence.0 fence.1 p priced h) step.1

pub offered-IsPlaced : (prices : Option PriceTable) (slots : List Slot) (words : List (List ℕ)) (p : List Entry)
    → IsPlaced prices slots words (Some p) → IfSome prices (λ t. IsTrue (are_offered t p))
offered-IsPlaced None slots words p h = tt
offered-IsPlaced (Some t) slots words p h = offered-placed t (all_with None slots) h.0 p (offered-all_with t slots) h.2
