-- The width of an execution is exact.
use Rattle.std.proofs.Common.{◌≡◌, ◌⊎◌, ℕ, ◌+◌, Bool, true, ◌&&◌, Option, None, Some, List, [], ◌∷◌, length, inl, inr, refl, sym, subst, lit<}
use Rattle.std.specs.List.{list_all, list_any}
use Rattle.std.proofs.lemmas.Bool.{and_parts, and_from, or_cases, false≢true, cases_Bool}
use Rattle.std.proofs.lemmas.List.Folds.{list_any_at}
use Rattle.fs_kinds.specs.declared.kind.Kind.{Kind}
use Rattle.fs_kinds.specs.declared.placement.Entry.{Entry}
use Rattle.fs_kinds.specs.declared.slot.Slot.{Slot}
use Rattle.fs_kinds.specs.Kind.{Pair, ReadRead, ReadWrite, WriteRead, WriteWrite, is_subset}
use Rattle.fs_kinds.specs.Placement.{kind_at, pairs_kept, slots_of}
use Rattle.fs_kinds.specs.Slot.{is_rising, is_same_slot}
use Rattle.fs_model.specs.declared.test.Test.{Test}
use Rattle.fs_model.specs.Numbers.{between, numbers_below, stands_before}
use Rattle.fs_model.specs.Operations.{PreExecution, operation, operations, place, classes, trace_of, instr_at, po}
use Rattle.fs_model.specs.Source.{gmo, source_in}
use Rattle.fs_model.specs.Fences.{instr_orders, kind_orders, placed_before, fence_between}
use Rattle.fs_model.specs.Preserved.{Rule, Rule1, Rule2, Rule3, Rule4, Rule5, Rule6, Rule7, Rule8, Rule9, Rule10, Rule11, Rule12, Rule13, all_rules, rule, ppo}
use Rattle.fs_model.specs.Execution.{Execution, IsExecution, pre_execution}
use Rattle.fs_cert_evidence.specs.Widths.{kind_of_pair, single, bears, width, is_within_width, IsExactWidth}
use Rattle.fs_model.proofs.Ranges.{each_two_below, po_in_range}
use Rattle.fs_model_laws.proofs.PlacedPairs.{or_left, or_right, implies_from, implied, all_from, any_found, subset_from, subset_at, at_slot, by_pair, from_pair, itself, kind_at_same, kind_at_other, same_slot, each_entry, each_slot}

-- ---- a single pair at a single slot

abbrev alone : Slot → Pair → Entry
alone s pair = record { slot = s; kind = Some (kind_of_pair pair) }

self_pair : (pair : Pair) → pairs_kept (Some (kind_of_pair pair)) pair ≡ true
self_pair ReadRead = refl
self_pair ReadWrite = refl
self_pair WriteRead = refl
self_pair WriteWrite = refl

one_pair : (pair other : Pair) → pairs_kept (Some (kind_of_pair pair)) other ≡ true → pair ≡ other
one_pair ReadRead ReadRead h = refl
one_pair ReadWrite ReadWrite h = refl
one_pair WriteRead WriteRead h = refl
one_pair WriteWrite WriteWrite h = refl
one_pair ReadRead ReadWrite h = absurd (false≢true h)
one_pair ReadRead WriteRead h = absurd (false≢true h)
one_pair ReadRead WriteWrite h = absurd (false≢true h)
one_pair ReadWrite ReadRead h = absurd (false≢true h)
one_pair ReadWrite WriteRead h = absurd (false≢true h)
one_pair ReadWrite WriteWrite h = absurd (false≢true h)
one_pair WriteRead ReadRead h = absurd (false≢true h)
one_pair WriteRead ReadWrite h = absurd (false≢true h)
one_pair WriteRead WriteWrite h = absurd (false≢true h)
one_pair WriteWrite ReadRead h = absurd (false≢true h)
one_pair WriteWrite ReadWrite h = absurd (false≢true h)
one_pair WriteWrite WriteRead h = absurd (false≢true h)

keeps_itself : (s : Slot) (pair : Pair) → pairs_kept (kind_at s (single s pair)) pair ≡ true
keeps_itself s pair =
    let same = kind_at_same s (alone s pair) [] (itself s) in
    subst (λ (kind : Option Kind). pairs_kept kind pair ≡ true) (sym same) (self_pair pair)

keeps_only : (s u : Slot) (pair other : Pair) → pairs_kept (kind_at u (single s pair)) other ≡ true → (s ≡ u) × (pair ≡ other)
keeps_only s u pair other h = elim (cases_Bool (is_same_slot s u)) [
  | inl same ↦ (
    same_slot s u same,
    one_pair pair other (subst (λ (kind : Option Kind). pairs_kept kind other ≡ true) (kind_at_same u (alone s pair) [] same) h),
  )
  | inr else ↦ absurd (false≢true
      (subst (λ (kind : Option Kind). pairs_kept kind other ≡ true) (kind_at_other u (alone s pair) [] else) h))
]

module _ (x : PreExecution) (a b : ℕ) where
  -- a FENCE of the test orders them, a placed one does
  abbrev written : Bool
  written = list_any (λ k. instr_orders (classes x a) (classes x b) (instr_at (trace_of x a) k)) (between (place x a) (place x b))

  abbrev is_placed_at : List Entry → ℕ → Bool
  is_placed_at p k = kind_orders (classes x a) (classes x b) (placed_before x p a k)

  abbrev placed : List Entry → Bool
  placed p = list_any (is_placed_at p) (between (place x a) (place x b + 1))

  -- a placed fence orders them by a pair at a slot, and so does any other that keeps this pair there
  by_fence : (p : List Entry) → placed p ≡ true
      → (s : Slot) × (pair : Pair) × (pairs_kept (kind_at s p) pair ≡ true)
      × ((q : List Entry) → pairs_kept (kind_at s q) pair ≡ true → placed q ≡ true)
  by_fence p h =
      let found = any_found (is_placed_at p) (between (place x a) (place x b + 1)) h in
      let slot = at_slot (classes x a) (classes x b) (operation x a).hart (trace_of x a) found.0 p found.1 in
      let pair = by_pair (classes x a) (classes x b) (kind_at slot.0 p)
      (subst (λ (kind : Option Kind). kind_orders (classes x a) (classes x b) kind ≡ true) (slot.1 p) found.1) in (
        slot.0,
        pair.0,
        pair.1,
        (λ q kept. found.2 (is_placed_at q)
            (subst (λ (kind : Option Kind). kind_orders (classes x a) (classes x b) kind ≡ true) (sym (slot.1 q))
            (from_pair (classes x a) (classes x b) (kind_at slot.0 q) pair.0 kept pair.2))),
      )

  module _ (rf : ℕ → Option ℕ) where
    abbrev holds_with : List Entry → Rule → Bool
    holds_with p = rule x p rf a b

    by_fence_rule : (p : List Entry) → po x a b ≡ true → fence_between x p a b ≡ true → ppo x p rf a b ≡ true
    by_fence_rule p before fence =
        list_any_at (holds_with p) all_rules 3 Rule1 (lit< tt) (and_from (po x a b) (fence_between x p a b) before fence)

    -- the other rules don't speak of placed fences
    by_rule : (p : List Entry) (r : Rule) → holds_with p r ≡ true → (holds_with [] r ≡ true) ⊎ (holds_with p Rule4 ≡ true)
    by_rule p Rule1 h = inl h
    by_rule p Rule2 h = inl h
    by_rule p Rule3 h = inl h
    by_rule p Rule4 h = inr h
    by_rule p Rule5 h = inl h
    by_rule p Rule6 h = inl h
    by_rule p Rule7 h = inl h
    by_rule p Rule8 h = inl h
    by_rule p Rule9 h = inl h
    by_rule p Rule10 h = inl h
    by_rule p Rule11 h = inl h
    by_rule p Rule12 h = inl h
    by_rule p Rule13 h = inl h

    split : (p : List Entry) (rs : List Rule) → list_any (holds_with p) rs ≡ true
        → (list_any (holds_with []) rs ≡ true) ⊎ (holds_with p Rule4 ≡ true)
    split p [] h = absurd (false≢true h)
    split p (r ∷ rs) h = elim (or_cases (holds_with p r) (list_any (holds_with p) rs) h) [
      | inl here ↦ elim (by_rule p r here) [
        | inl without ↦ inl (or_left (holds_with [] r) (list_any (holds_with []) rs) without)
        | inr fence ↦ inr fence
      ]
      | inr there ↦ elim (split p rs there) [
        | inl without ↦ inl (or_right (holds_with [] r) (list_any (holds_with []) rs) without)
        | inr fence ↦ inr fence
      ]
    ]

module _ (t : Test) (e : Execution) where
  abbrev x : PreExecution
  x = pre_execution t e.traces

  abbrev rf : ℕ → Option ℕ
  rf = source_in x e.order

  abbrev numbers : List ℕ
  numbers = numbers_below (length (operations x))

  -- a fence of the pair alone at the slot orders a before b
  abbrev asks : Slot → Pair → ℕ → ℕ → Bool
  asks s pair a b = po x a b && fence_between x (single s pair) a b

  abbrev fits : Slot → Option Kind → Bool
  fits s kind = is_subset (pairs_kept kind) (width t e s)

  none_fits : (s : Slot) → fits s None ≡ true
  none_fits s = refl

  module _ (p : List Entry) where
    forward : IsExecution t [] e → is_within_width t e p ≡ true
        → (a b : ℕ) → ppo x p rf a b ≡ true → stands_before (gmo x e.order) a b ≡ true
    forward bare within a b h = elim (split x a b rf p all_rules h) [
      | inl without ↦ bare.axioms.preserved a b without
      | inr fence ↦ (let parts = and_parts (po x a b) (fence_between x p a b) fence in fenced parts.0 parts.1)
    ]
      where
        by_placed : po x a b ≡ true → placed x a b p ≡ true → stands_before (gmo x e.order) a b ≡ true
        by_placed before h =
            let found = by_fence x a b p h in
            let s = found.0 in
            let pair = found.1 in
            let fit = each_slot fits none_fits p within s in
            let kept = subset_at (pairs_kept (kind_at s p)) (width t e s) fit pair found.2 in
            let there = po_in_range x a b before in
            let fence = or_right (written x a b) (placed x a b (single s pair)) (found.3 (single s pair) (keeps_itself s pair)) in
            implied (asks s pair a b) (stands_before (gmo x e.order) a b)
            (each_two_below (bears x e.order s pair) (length (operations x)) a b kept there.0 there.1)
            (and_from (po x a b) (fence_between x (single s pair) a b) before fence)

        fenced : po x a b ≡ true → fence_between x p a b ≡ true → stands_before (gmo x e.order) a b ≡ true
        fenced before fence = elim (or_cases (written x a b) (placed x a b p) fence) [
          | inl w ↦ bare.axioms.preserved a b (by_fence_rule x a b rf [] before (or_left (written x a b) (placed x a b []) w))
          | inr q ↦ by_placed before q
        ]

    backward : IsExecution t p e → is_rising (slots_of p) ≡ true → is_within_width t e p ≡ true
    backward full rising =
        each_entry fits none_fits p rising (λ s. subset_from (pairs_kept (kind_at s p)) (width t e s) (λ pair kept.
        all_from (λ a. list_all (bears x e.order s pair a) numbers) (λ a.
        all_from (bears x e.order s pair a) (λ b.
        implies_from (asks s pair a b) (stands_before (gmo x e.order) a b) (borne s pair kept a b)) numbers) numbers))
      where
        borne : (s : Slot) (pair : Pair) → pairs_kept (kind_at s p) pair ≡ true
            → (a b : ℕ) → asks s pair a b ≡ true → stands_before (gmo x e.order) a b ≡ true
        borne s pair kept a b both =
            let parts = and_parts (po x a b) (fence_between x (single s pair) a b) both in
            full.axioms.preserved a b (by_fence_rule x a b rf p parts.0 (with_all s pair kept a b parts.1))
          where
            placed_too : (s : Slot) (pair : Pair) → pairs_kept (kind_at s p) pair ≡ true
                → (a b : ℕ) → placed x a b (single s pair) ≡ true → placed x a b p ≡ true
            placed_too s pair kept a b h =
                let found = by_fence x a b (single s pair) h in
                let same = keeps_only s found.0 pair found.1 found.2 in
                let here = subst (λ (other : Pair). pairs_kept (kind_at s p) other ≡ true) same.1 kept in
                found.3 p (subst (λ (u : Slot). pairs_kept (kind_at u p) found.1 ≡ true) same.0 here)

            with_all : (s : Slot) (pair : Pair) → pairs_kept (kind_at s p) pair ≡ true
                → (a b : ℕ) → fence_between x (single s pair) a b ≡ true → fence_between x p a b ≡ true
            with_all s pair kept a b h = elim (or_cases (written x a b) (placed x a b (single s pair)) h) [
              | inl w ↦ or_left (written x a b) (placed x a b p) w
              | inr q ↦ or_right (written x a b) (placed x a b p) (placed_too s pair kept a b q)
            ]

  pub exact : IsExecution t [] e → IsExactWidth t e
  exact bare p rising = (
    (λ within. record {
      harts = bare.harts;
      runs = bare.runs;
      axioms = record {
        once = bare.axioms.once;
        preserved = forward p bare within;
        values = bare.axioms.values;
        atomic = bare.axioms.atomic;
      };
    }),
    (λ full. backward p full rising),
  )
