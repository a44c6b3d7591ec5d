-- Fences slot by slot and pair by pair.
use Rattle.std.proofs.Common.{◌≡◌, ℕ, ◌==◌, Bool, true, false, ◌&&◌, ◌||◌, not, Option, None, Some, option_and_then, List, [], ◌∷◌, slice_get, inl, inr, refl, sym, ap₂, ◌∙◌, subst, arith, if◌then◌else◌}
use Rattle.std.specs.List.{list_all, list_any, find}
use Rattle.std.proofs.lemmas.Bool.{and_parts, and_from, or_cases, eqb-true, eq-eqb, ltb-true, false≢true, cases_Bool}
use Rattle.fs_kinds.specs.declared.kind.Classes.{Classes}
use Rattle.fs_kinds.specs.declared.kind.Kind.{Kind}
use Rattle.fs_kinds.specs.declared.placement.Entry.{Entry}
use Rattle.fs_kinds.specs.declared.slot.Slot.{Slot}
use Rattle.fs_kinds.specs.Kind.{Pair, ReadRead, ReadWrite, WriteRead, WriteWrite, product, any_pair, is_subset}
use Rattle.fs_kinds.specs.Placement.{kind_at, pairs_kept, slots_of}
use Rattle.fs_kinds.specs.Slot.{is_before, is_rising, is_same_slot}
use Rattle.fs_model.specs.Slots.{slot_at}
use Rattle.fs_model.specs.declared.step.Step.{Step}
use Rattle.fs_model.specs.Fences.{kind_orders}

-- ---- tests

pub or_left : (a b : Bool) → a ≡ true → (a || b) ≡ true
or_left true b h = refl
or_left false b h = absurd (false≢true h)

pub or_right : (a b : Bool) → b ≡ true → (a || b) ≡ true
or_right true b h = refl
or_right false b h = h

pub implies_from : (a b : Bool) → (a ≡ true → b ≡ true) → (not a || b) ≡ true
implies_from true b f = f refl
implies_from false b f = refl

pub implied : (a b : Bool) → (not a || b) ≡ true → a ≡ true → b ≡ true
implied true b h e = h
implied false b h e = absurd (false≢true e)

pub all_from : {X : Type 0} (test : X → Bool) → ((n : X) → test n ≡ true) → (xs : List X) → list_all test xs ≡ true
all_from test f [] = refl
all_from test f (n ∷ xs) = and_from (test n) (list_all test xs) (f n) (all_from test f xs)

-- an element that passes, which serves another test as well
pub any_found : {X : Type 0} (f : X → Bool) (xs : List X) → list_any f xs ≡ true
    → (n : X) × (f n ≡ true) × ((g : X → Bool) → g n ≡ true → list_any g xs ≡ true)
any_found f [] h = absurd (false≢true h)
any_found f (n ∷ xs) h = elim (or_cases (f n) (list_any f xs) h) [
  | inl here ↦ (n, here, (λ g e. or_left (g n) (list_any g xs) e))
  | inr there ↦ (let later = any_found f xs there in (later.0, later.1, (λ g e. or_right (g n) (list_any g xs) (later.2 g e))))
]

-- ---- pairs of classes

pairs_found : (f : Pair → Bool) → any_pair f ≡ true → (pair : Pair) × (f pair ≡ true)
pairs_found f h = elim (or_cases _ _ h) [
  | inl first ↦ elim (or_cases _ _ first) [
    | inl second ↦ elim (or_cases _ _ second) [
      | inl third ↦ (ReadRead, third)
      | inr third ↦ (ReadWrite, third)
    ]
    | inr second ↦ (WriteRead, second)
  ]
  | inr first ↦ (WriteWrite, first)
]

pairs_any : (f : Pair → Bool) (pair : Pair) → f pair ≡ true → any_pair f ≡ true
pairs_any f ReadRead h = or_left _ _ (or_left _ _ (or_left _ _ h))
pairs_any f ReadWrite h = or_left _ _ (or_left _ _ (or_right (f ReadRead) _ h))
pairs_any f WriteRead h = or_left _ _ (or_right (f ReadRead || f ReadWrite) _ h)
pairs_any f WriteWrite h = or_right (f ReadRead || f ReadWrite || f WriteRead) _ h

pub subset_from : (s u : Pair → Bool) → ((pair : Pair) → s pair ≡ true → u pair ≡ true) → is_subset s u ≡ true
subset_from s u f =
    and_from _ _
    (and_from _ _
    (and_from _ _ (implies_from _ _ (f ReadRead)) (implies_from _ _ (f ReadWrite)))
    (implies_from _ _ (f WriteRead)))
    (implies_from _ _ (f WriteWrite))

pub subset_at : (s u : Pair → Bool) → is_subset s u ≡ true → (pair : Pair) → s pair ≡ true → u pair ≡ true
subset_at s u h ReadRead = implied _ _ (and_parts _ _ (and_parts _ _ (and_parts _ _ h).0).0).0
subset_at s u h ReadWrite = implied _ _ (and_parts _ _ (and_parts _ _ (and_parts _ _ h).0).0).1
subset_at s u h WriteRead = implied _ _ (and_parts _ _ (and_parts _ _ h).0).1
subset_at s u h WriteWrite = implied _ _ (and_parts _ _ h).1

-- a fence orders two operations by one of its pairs
abbrev is_pair : Classes → Classes → Pair → Bool
is_pair first second = product first.reads first.writes second.reads second.writes

pub by_pair : (first second : Classes) (kind : Option Kind) → kind_orders first second kind ≡ true
    → (pair : Pair) × (pairs_kept kind pair ≡ true) × (is_pair first second pair ≡ true)
by_pair first second None h = absurd (false≢true h)
by_pair first second (Some kind) h =
    let found = pairs_found (λ pair. pairs_kept (Some kind) pair && is_pair first second pair) h in
    let parts = and_parts (pairs_kept (Some kind) found.0) (is_pair first second found.0) found.1 in (found.0, parts.0, parts.1)

pub from_pair : (first second : Classes) (kind : Option Kind) (pair : Pair)
    → pairs_kept kind pair ≡ true → is_pair first second pair ≡ true → kind_orders first second kind ≡ true
from_pair first second None pair h e = absurd (false≢true h)
from_pair first second (Some kind) pair h e =
    pairs_any (λ pair. pairs_kept (Some kind) pair && is_pair first second pair) pair (and_from _ _ h e)

-- ---- slots

pub same_slot : (s u : Slot) → is_same_slot s u ≡ true → s ≡ u
same_slot s u h =
    let parts = and_parts (s.hart == u.hart) (s.at == u.at) h in
    ap₂ slot_at (eqb-true s.hart u.hart parts.0) (eqb-true s.at u.at parts.1)

pub itself : (s : Slot) → is_same_slot s s ≡ true
itself s = and_from _ _ (eq-eqb s.hart s.hart refl) (eq-eqb s.at s.at refl)

-- no slot is before itself
not_before_itself : (s : Slot) → is_before s s ≡ true → ⊥
not_before_itself s h = elim (or_cases _ _ h) [
  | inl hart ↦ (let less = ltb-true s.hart s.hart hart in omega (arith, less))
  | inr at ↦ (let less = ltb-true s.at s.at (and_parts (s.hart == s.hart) _ at).1 in omega (arith, less))
]

chosen : (c : Bool) (e : Entry) (rest : Option Entry) → c ≡ true
    → option_and_then (λ f. f.kind) (if c then Some e else rest) ≡ e.kind
chosen true e rest h = refl
chosen false e rest h = absurd (false≢true h)

passed : (c : Bool) (e : Entry) (rest : Option Entry) → c ≡ false
    → option_and_then (λ f. f.kind) (if c then Some e else rest) ≡ option_and_then (λ f. f.kind) rest
passed true e rest h = absurd (false≢true (sym h))
passed false e rest h = refl

pub kind_at_same : (s : Slot) (e : Entry) (p : List Entry) → is_same_slot e.slot s ≡ true → kind_at s (e ∷ p) ≡ e.kind
kind_at_same s e p h = chosen (is_same_slot e.slot s) e (find (λ f. is_same_slot f.slot s) p) h

pub kind_at_other : (s : Slot) (e : Entry) (p : List Entry) → is_same_slot e.slot s ≡ false → kind_at s (e ∷ p) ≡ kind_at s p
kind_at_other s e p h = passed (is_same_slot e.slot s) e (find (λ f. is_same_slot f.slot s) p) h

-- a slot before all those of a placement has no kind there
earlier_has_none : (s : Slot) (p : List Entry) → list_all (is_before s) (slots_of p) ≡ true → kind_at s p ≡ None
earlier_has_none s [] h = refl
earlier_has_none s (e ∷ p) h =
    let parts = and_parts (is_before s e.slot) (list_all (is_before s) (slots_of p)) h in
    elim (cases_Bool (is_same_slot e.slot s)) [
      | inl same ↦ absurd (not_before_itself s (subst (λ (u : Slot). is_before s u ≡ true) (same_slot e.slot s same) parts.0))
      | inr other ↦ kind_at_other s e p other ∙ earlier_has_none s p parts.1
    ]

-- ---- placements slot by slot: P is a test of a slot and what stands there, which none passes
module _ (P : Slot → Option Kind → Bool) (none : (s : Slot) → P s None ≡ true) where
  pub each_entry : (p : List Entry) → is_rising (slots_of p) ≡ true → ((s : Slot) → P s (kind_at s p) ≡ true)
      → list_all (λ e. P e.slot e.kind) p ≡ true
  each_entry [] rising h = refl
  each_entry (e ∷ p) rising h =
      let parts = and_parts (list_all (is_before e.slot) (slots_of p)) (is_rising (slots_of p)) rising in
      and_from _ _
      (subst (λ (kind : Option Kind). P e.slot kind ≡ true) (kind_at_same e.slot e p (itself e.slot)) (h e.slot))
      (each_entry p parts.1 (later parts.0))
    where
      later : list_all (is_before e.slot) (slots_of p) ≡ true → (s : Slot) → P s (kind_at s p) ≡ true
      later first s = elim (cases_Bool (is_same_slot e.slot s)) [
        | inl same ↦ (
            let before = subst (λ (u : Slot). list_all (is_before u) (slots_of p) ≡ true) (same_slot e.slot s same) first in
            subst (λ (kind : Option Kind). P s kind ≡ true) (sym (earlier_has_none s p before)) (none s)
            )
        | inr other ↦ subst (λ (kind : Option Kind). P s kind ≡ true) (kind_at_other s e p other) (h s)
      ]

  pub each_slot : (p : List Entry) → list_all (λ e. P e.slot e.kind) p ≡ true → (s : Slot) → P s (kind_at s p) ≡ true
  each_slot [] h s = none s
  each_slot (e ∷ p) h s =
      let parts = and_parts (P e.slot e.kind) (list_all (λ f. P f.slot f.kind) p) h in
      elim (cases_Bool (is_same_slot e.slot s)) [
        | inl same ↦ (
            let here = subst (λ (u : Slot). P u e.kind ≡ true) (same_slot e.slot s same) parts.0 in
            subst (λ (kind : Option Kind). P s kind ≡ true) (sym (kind_at_same s e p same)) here
            )
        | inr other ↦ subst (λ (kind : Option Kind). P s kind ≡ true) (sym (kind_at_other s e p other)) (each_slot p parts.1 s)
      ]

-- ---- fences

abbrev before_step : Option ℕ → List Step → ℕ → List Entry → Option Kind
before_step h steps k p = option_and_then (λ hart. option_and_then (λ s. kind_at (slot_at hart s.at) p) (slice_get steps k)) h

-- a fence found before step k stands at the slot of the step, with any placement
pub at_slot : (first second : Classes) (h : Option ℕ) (steps : List Step) (k : ℕ) (p : List Entry)
    → kind_orders first second (before_step h steps k p) ≡ true
    → (s : Slot) × ((q : List Entry) → before_step h steps k q ≡ kind_at s q)
at_slot first second None steps k p orders = absurd (false≢true orders)
at_slot first second (Some hart) steps k p orders = in_step (slice_get steps k) orders
  where
    in_step : (o : Option Step) → kind_orders first second (option_and_then (λ u. kind_at (slot_at hart u.at) p) o) ≡ true
        → (s : Slot) × ((q : List Entry) → option_and_then (λ u. kind_at (slot_at hart u.at) q) o ≡ kind_at s q)
    in_step None e = absurd (false≢true e)
    in_step (Some u) e = (slot_at hart u.at, (λ q. refl))
