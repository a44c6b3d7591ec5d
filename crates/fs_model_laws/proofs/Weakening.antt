-- With weaker fences less is in preserved program order, so more orders are those of executions.
use Rattle.std.proofs.Common.{◌≡◌, ℕ, Bool, true, false, cond, not, ◌&&◌, ◌||◌, Option, Some, None, option_and_then, List, [], ◌∷◌, refl, sym, ap, inl, inr}
use Rattle.std.specs.Prelude.{drop, slice_get}
use Rattle.std.specs.List.{list_any, find, slice_index_or}
use Rattle.std.proofs.lemmas.Bool.{or_cases, or_left, or_right, and_parts, and_from, false≢true}
use Rattle.fs_kinds.specs.declared.kind.Classes.{Classes}
use Rattle.fs_kinds.specs.declared.kind.Kind.{Kind}
use Rattle.fs_kinds.specs.declared.slot.Slot.{Slot}
use Rattle.fs_kinds.specs.declared.placement.Entry.{Entry}
use Rattle.fs_kinds.specs.Kind.{Pair, ReadRead, ReadWrite, WriteRead, WriteWrite, pairs_order, product, is_subset}
use Rattle.fs_kinds.specs.Slot.{is_same_slot}
use Rattle.fs_kinds.specs.Placement.{slots_of, kind_at, pairs_kept, is_weaker, keeps_no_more}
use Rattle.fs_model.specs.declared.test.Test.{Test}
use Rattle.fs_model.specs.Slots.{slot_at}
use Rattle.fs_model.specs.declared.step.Step.{Step}
use Rattle.fs_model.specs.Operations.{PreExecution, operation, classes, trace_of, po}
use Rattle.fs_model.specs.Fences.{kind_orders, placed_before, fence_between}
use Rattle.fs_model.specs.Preserved.{Rule, Rule1, Rule2, Rule3, Rule4, Rule5, Rule6, Rule7, Rule8, Rule9, Rule10, Rule11, Rule12, Rule13, all_rules, case_of, rule, ppo}
use Rattle.fs_model.specs.Source.{source_in}
use Rattle.fs_model.specs.Execution.{Execution, ObeysAxioms, IsExecution, pre_execution}
use Rattle.fs_model.specs.Allows.{Shows}
use Rattle.fs_model_laws.specs.Strength.{KeepsNoMore, KeepsTheSame, AllowsNoLess}

-- ---- pairs

implied : (x y : Bool) → (not x || y) ≡ true → x ≡ true → y ≡ true
implied true y either holds = either
implied false y either holds = absurd (false≢true holds)

subset-at : (s s' : Pair → Bool) (pair : Pair) → is_subset s s' ≡ true → s pair ≡ true → s' pair ≡ true
subset-at s s' ReadRead subset kept = implied _ _ (and_parts _ _ (and_parts _ _ (and_parts _ _ subset).0).0).0 kept
subset-at s s' ReadWrite subset kept = implied _ _ (and_parts _ _ (and_parts _ _ (and_parts _ _ subset).0).0).1 kept
subset-at s s' WriteRead subset kept = implied _ _ (and_parts _ _ (and_parts _ _ subset).0).1 kept
subset-at s s' WriteWrite subset kept = implied _ _ (and_parts _ _ subset).1 kept

abbrev IsWithin : (Pair → Bool) → (Pair → Bool) → Type 0
IsWithin s s' = (pair : Pair) → s pair ≡ true → s' pair ≡ true

-- a larger set of pairs orders more
pairs_order-larger : (s s' : Pair → Bool) (a b : Classes) → IsWithin s s' → pairs_order s a b ≡ true → pairs_order s' a b ≡ true
pairs_order-larger s s' a b within ordered = elim (or_cases _ _ ordered) [
  | inl first3 ↦ (elim (or_cases _ _ first3) [
    | inl first2 ↦ (elim (or_cases _ _ first2) [
      | inl found ↦ or_left _ _ (or_left _ _ (or_left _ _ (grow ReadRead found)))
      | inr found ↦ or_left _ _ (or_left _ _ (or_right _ _ (grow ReadWrite found)))
    ])
    | inr found ↦ or_left _ _ (or_right _ _ (grow WriteRead found))
  ])
  | inr found ↦ or_right _ _ (grow WriteWrite found)
]
  where
    meets : Pair → Bool
    meets pair = product a.reads a.writes b.reads b.writes pair

    grow : (pair : Pair) → (s pair && meets pair) ≡ true → (s' pair && meets pair) ≡ true
    grow pair found = let parts = and_parts _ _ found in and_from _ _ (within pair parts.0) parts.1

kind_orders-kept : (a b : Classes) (kind : Option Kind) → kind_orders a b kind ≡ pairs_order (pairs_kept kind) a b
kind_orders-kept a b None = refl
kind_orders-kept a b (Some kind) = refl

kind_orders-larger : (a b : Classes) (k l : Option Kind) → IsWithin (pairs_kept k) (pairs_kept l)
    → kind_orders a b k ≡ true → kind_orders a b l ≡ true
kind_orders-larger a b k l within ordered =
    let kept : pairs_order (pairs_kept k) a b ≡ true = rw (← kind_orders-kept a b k) ordered in
    rw (kind_orders-kept a b l) (pairs_order-larger (pairs_kept k) (pairs_kept l) a b within kept)

-- ---- slots

-- the kind at a slot is that of the first entry, or stands later
kind_at-first : (s : Slot) (e : Entry) (p : List Entry) → kind_at s (e ∷ p) ≡ cond (is_same_slot e.slot s) e.kind (kind_at s p)
kind_at-first s e p = by_case (is_same_slot e.slot s)
  where
    later : Option Entry
    later = find (λ h. is_same_slot h.slot s) p

    by_case : (here : Bool) → option_and_then (λ h. h.kind) (cond here (Some e) later) ≡ cond here e.kind (kind_at s p)
    by_case true = refl
    by_case false = refl

kept-first : (here : Bool) (k l m n : Option Kind) (pair : Pair)
    → is_subset (pairs_kept k) (pairs_kept m) ≡ true → (pairs_kept l pair ≡ true → pairs_kept n pair ≡ true)
    → pairs_kept (cond here k l) pair ≡ true → pairs_kept (cond here m n) pair ≡ true
kept-first true k l m n pair first later kept = subset-at (pairs_kept k) (pairs_kept m) pair first kept
kept-first false k l m n pair first later kept = later kept

nil≢cons : (s : Slot) (ss : List Slot) → [] ≡ s ∷ ss → ⊥
nil≢cons s ss same = absurd (false≢true (ap is_filled same))
  where
    is_filled : List Slot → Bool
    is_filled [] = false
    is_filled (t ∷ ts) = true

-- the kinds of two lists with the same slots are found at the same place
pub kept-at : (p q : List Entry) → slots_of p ≡ slots_of q → is_weaker p q ≡ true → KeepsNoMore p q
kept-at [] [] same weaker s pair kept = kept
kept-at [] (f ∷ q) same weaker s pair kept = absurd (false≢true kept)
kept-at (e ∷ p) [] same weaker s pair kept = absurd (nil≢cons e.slot (slots_of p) (sym same))
kept-at (e ∷ p) (f ∷ q) same weaker s pair kept =
    let first : e.slot ≡ f.slot = ap (λ ss. slice_index_or ss 0 e.slot) same in
    let rest : slots_of p ≡ slots_of q = ap (drop 1) same in
    let parts = and_parts (keeps_no_more (e, f)) (is_weaker p q) weaker in
    let later = kept-at p q rest parts.1 s pair in
    let here = is_same_slot f.slot s in
    let below : pairs_kept (cond here e.kind (kind_at s p)) pair ≡ true = rw (← first, ← kind_at-first s e p) kept in
    rw (kind_at-first s f q) (kept-first here e.kind (kind_at s p) f.kind (kind_at s q) pair parts.0 later below)

-- ---- preserved program order

any-larger : {X : Type 0} (f g : X → Bool) (xs : List X) → ((x : X) → f x ≡ true → g x ≡ true)
    → list_any f xs ≡ true → list_any g xs ≡ true
any-larger f g [] larger found = found
any-larger f g (x ∷ xs) larger found = elim (or_cases _ _ found) [
  | inl here ↦ or_left _ _ (larger x here)
  | inr later ↦ or_right _ _ (any-larger f g xs larger later)
]

placed-larger : (p q : List Entry) (a b : Classes) (hart : Option ℕ) (step : Option Step) → KeepsNoMore p q
    → kind_orders a b (option_and_then (λ h. option_and_then (λ s. kind_at (slot_at h s.at) p) step) hart) ≡ true
    → kind_orders a b (option_and_then (λ h. option_and_then (λ s. kind_at (slot_at h s.at) q) step) hart) ≡ true
placed-larger p q a b None step weaker ordered = absurd (false≢true ordered)
placed-larger p q a b (Some h) None weaker ordered = absurd (false≢true ordered)
placed-larger p q a b (Some h) (Some s) weaker ordered =
    kind_orders-larger a b (kind_at (slot_at h s.at) p) (kind_at (slot_at h s.at) q) (weaker (slot_at h s.at)) ordered

fence_between-larger : (x : PreExecution) (p q : List Entry) (a b : ℕ) → KeepsNoMore p q
    → fence_between x p a b ≡ true → fence_between x q a b ≡ true
fence_between-larger x p q a b weaker found = elim (or_cases _ _ found) [
  | inl written ↦ or_left _ _ written
  | inr placed ↦ or_right _ _ (any-larger
      (λ k. kind_orders (classes x a) (classes x b) (placed_before x p a k))
      (λ k. kind_orders (classes x a) (classes x b) (placed_before x q a k))
      _ (λ k. placed-larger p q (classes x a) (classes x b) (operation x a).hart (slice_get (trace_of x a) k) weaker) placed)
]

case-larger : (x : PreExecution) (p q : List Entry) (rf : ℕ → Option ℕ) (a b : ℕ) → KeepsNoMore p q → (r : Rule)
    → case_of x p rf a b r ≡ true → case_of x q rf a b r ≡ true
case-larger x p q rf a b weaker Rule4 holds = fence_between-larger x p q a b weaker holds
case-larger x p q rf a b weaker Rule1 holds = holds
case-larger x p q rf a b weaker Rule2 holds = holds
case-larger x p q rf a b weaker Rule3 holds = holds
case-larger x p q rf a b weaker Rule5 holds = holds
case-larger x p q rf a b weaker Rule6 holds = holds
case-larger x p q rf a b weaker Rule7 holds = holds
case-larger x p q rf a b weaker Rule8 holds = holds
case-larger x p q rf a b weaker Rule9 holds = holds
case-larger x p q rf a b weaker Rule10 holds = holds
case-larger x p q rf a b weaker Rule11 holds = holds
case-larger x p q rf a b weaker Rule12 holds = holds
case-larger x p q rf a b weaker Rule13 holds = holds

-- what a rule orders with weaker fences it orders with stronger ones
pub rule-larger : (x : PreExecution) (p q : List Entry) (rf : ℕ → Option ℕ) (a b : ℕ) → KeepsNoMore p q → (r : Rule)
    → rule x p rf a b r ≡ true → rule x q rf a b r ≡ true
rule-larger x p q rf a b weaker r holds =
    let parts = and_parts (po x a b) (case_of x p rf a b r) holds in
    and_from _ _ parts.0 (case-larger x p q rf a b weaker r parts.1)

-- what is preserved with weaker fences is preserved with stronger ones
pub ppo-larger : (x : PreExecution) (p q : List Entry) (rf : ℕ → Option ℕ) (a b : ℕ) → KeepsNoMore p q
    → ppo x p rf a b ≡ true → ppo x q rf a b ≡ true
ppo-larger x p q rf a b weaker holds =
    any-larger (rule x p rf a b) (rule x q rf a b) all_rules (rule-larger x p q rf a b weaker) holds

-- ---- executions

pub axioms-weaker : (x : PreExecution) (p q : List Entry) (order : List ℕ) → KeepsNoMore p q
    → ObeysAxioms x q order → ObeysAxioms x p order
axioms-weaker x p q order weaker axioms = record {
  once = axioms.once;
  preserved = λ a b before. axioms.preserved a b (ppo-larger x p q (source_in x order) a b weaker before);
  values = axioms.values;
  atomic = axioms.atomic;
}

pub execution-weaker : (t : Test) (p q : List Entry) (e : Execution) → KeepsNoMore p q → IsExecution t q e → IsExecution t p e
execution-weaker t p q e weaker execution = record {
  harts = execution.harts;
  runs = execution.runs;
  axioms = axioms-weaker (pre_execution t e.traces) p q e.order weaker execution.axioms;
}

pub shows-weaker : (t : Test) (p q : List Entry) (e : Execution) → KeepsNoMore p q → Shows t q e → Shows t p e
shows-weaker t p q e weaker shown = record {
  execution = execution-weaker t p q e weaker shown.execution;
  outcome = shown.outcome;
}

pub allows-no-less : (t : Test) (p q : List Entry) → KeepsNoMore p q → AllowsNoLess t p q
allows-no-less t p q weaker = record {
  executions = λ e. execution-weaker t p q e weaker;
  shows = λ e. shows-weaker t p q e weaker;
  allows = λ (e, shown). (e, shows-weaker t p q e weaker shown);
}

pub allows-the-same : (t : Test) (p q : List Entry) → KeepsTheSame p q → AllowsNoLess t p q × AllowsNoLess t q p
allows-the-same t p q same = (
  allows-no-less t p q (λ s pair kept. rw (← same s pair) kept),
  allows-no-less t q p (λ s pair kept. rw (same s pair) kept),
)
