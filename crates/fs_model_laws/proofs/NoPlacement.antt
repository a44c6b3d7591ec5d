-- The model on programs, in which fences are instructions, and the model with placements.
use Rattle.std.proofs.Common.{◌≡◌, true, false, Bool, Option, Some, None, List, [], ◌∷◌, ℕ, refl, inl, inr, ◌||◌, ◌&&◌}
use Rattle.std.specs.Prelude.{◌↔◌, ◌++◌, drop, option_and_then, slice_get}
use Rattle.std.specs.List.{list_any}
use Rattle.std.proofs.lemmas.Bool.{and_from, and_parts, or_cases, or_left, or_right, false≢true}
use Rattle.fs_kinds.specs.declared.kind.Classes.{Classes}
use Rattle.fs_kinds.specs.declared.placement.Entry.{Entry}
use Rattle.fs_kinds.specs.Placement.{kind_at}
use Rattle.fs_model.specs.declared.test.Test.{Test}
use Rattle.fs_model.specs.declared.step.Step.{Step}
use Rattle.fs_model.specs.Slots.{slot_at}
use Rattle.fs_model.specs.Operations.{PreExecution, po, operation, classes, trace_of}
use Rattle.fs_model.specs.Fences.{kind_orders, placed_before, placed_between}
use Rattle.fs_model.specs.Rules.{Rule, Rule1, Rule2, Rule3, Rule4, Rule5, Rule6, Rule7, Rule8, Rule9, Rule10, Rule11, Rule12, Rule13, all_rules}
use Rattle.fs_model.specs.Rules as page
use Rattle.fs_model.specs.Preserved.{case_of, rule, ppo}
use Rattle.fs_model.specs.Executions as model
use Rattle.fs_model.specs.Executions.{Execution, source_in}
use Rattle.fs_model.specs.OfTests.{program_of, outcome_of, pre_execution}
use Rattle.fs_model.specs.Execution.{ObeysAxioms, IsExecution}
use Rattle.fs_model.specs.Allows.{Allows}

-- ---- any rule

any-larger : {X : Type 0} (f g : X → Bool) (xs : List X) → ((x : X) → f x ≡ true → g x ≡ true)
    → list_any f xs ≡ true → list_any g xs ≡ true
any-larger f g [] larger found = found
any-larger f g (x ∷ xs) larger found = elim (or_cases _ _ found) [
  | inl here ↦ or_left _ _ (larger x here)
  | inr later ↦ or_right _ _ (any-larger f g xs larger later)
]

case-page : (x : PreExecution) (p : List Entry) (rf : ℕ → Option ℕ) (a b : ℕ) (r : Rule)
    → page.case_of x rf a b r ≡ true → case_of x p rf a b r ≡ true
case-page x p rf a b Rule4 holds = or_left _ _ holds
case-page x p rf a b Rule1 holds = holds
case-page x p rf a b Rule2 holds = holds
case-page x p rf a b Rule3 holds = holds
case-page x p rf a b Rule5 holds = holds
case-page x p rf a b Rule6 holds = holds
case-page x p rf a b Rule7 holds = holds
case-page x p rf a b Rule8 holds = holds
case-page x p rf a b Rule9 holds = holds
case-page x p rf a b Rule10 holds = holds
case-page x p rf a b Rule11 holds = holds
case-page x p rf a b Rule12 holds = holds
case-page x p rf a b Rule13 holds = holds

case-placed : (x : PreExecution) (p : List Entry) (rf : ℕ → Option ℕ) (a b : ℕ) (r : Rule)
    → case_of x p rf a b r ≡ true → (page.case_of x rf a b r || placed_between x p a b) ≡ true
case-placed x p rf a b Rule4 holds = holds
case-placed x p rf a b Rule1 holds = or_left _ _ holds
case-placed x p rf a b Rule2 holds = or_left _ _ holds
case-placed x p rf a b Rule3 holds = or_left _ _ holds
case-placed x p rf a b Rule5 holds = or_left _ _ holds
case-placed x p rf a b Rule6 holds = or_left _ _ holds
case-placed x p rf a b Rule7 holds = or_left _ _ holds
case-placed x p rf a b Rule8 holds = or_left _ _ holds
case-placed x p rf a b Rule9 holds = or_left _ _ holds
case-placed x p rf a b Rule10 holds = or_left _ _ holds
case-placed x p rf a b Rule11 holds = or_left _ _ holds
case-placed x p rf a b Rule12 holds = or_left _ _ holds
case-placed x p rf a b Rule13 holds = or_left _ _ holds

-- some rule, or else what every rule may add
any-or : {X : Type 0} (f g : X → Bool) (extra : Bool) (xs : List X) → ((x : X) → f x ≡ true → (g x || extra) ≡ true)
    → list_any f xs ≡ true → (list_any g xs || extra) ≡ true
any-or f g extra [] each found = absurd (false≢true found)
any-or f g extra (x ∷ xs) each found = elim (or_cases (f x) (list_any f xs) found) [
  | inl here ↦ (elim (or_cases (g x) extra (each x here)) [
    | inl now ↦ or_left (list_any g (x ∷ xs)) extra (or_left (g x) (list_any g xs) now)
    | inr more ↦ or_right (list_any g (x ∷ xs)) extra more
  ])
  | inr later ↦ (elim (or_cases (list_any g xs) extra (any-or f g extra xs each later)) [
    | inl after ↦ or_left (list_any g (x ∷ xs)) extra (or_right (g x) (list_any g xs) after)
    | inr more ↦ or_right (list_any g (x ∷ xs)) extra more
  ])
]

rule-placed : (x : PreExecution) (p : List Entry) (rf : ℕ → Option ℕ) (a b : ℕ) (r : Rule)
    → rule x p rf a b r ≡ true → (page.rule x rf a b r || (po x a b && placed_between x p a b)) ≡ true
rule-placed x p rf a b r holds =
    let parts = and_parts (po x a b) (case_of x p rf a b r) holds in
    elim (or_cases _ _ (case-placed x p rf a b r parts.1)) [
      | inl now ↦ or_left _ _ (and_from _ _ parts.0 now)
      | inr more ↦ or_right _ _ (and_from _ _ parts.0 more)
    ]

page-rule : (x : PreExecution) (p : List Entry) (rf : ℕ → Option ℕ) (a b : ℕ) (r : Rule)
    → page.rule x rf a b r ≡ true → rule x p rf a b r ≡ true
page-rule x p rf a b r holds =
    let parts = and_parts (po x a b) (page.case_of x rf a b r) holds in
    and_from _ _ parts.0 (case-page x p rf a b r parts.1)

page-ppo : (x : PreExecution) (p : List Entry) (rf : ℕ → Option ℕ) (a b : ℕ) → page.ppo x rf a b ≡ true → ppo x p rf a b ≡ true
page-ppo x p rf a b = any-larger (page.rule x rf a b) (rule x p rf a b) all_rules (page-rule x p rf a b)

placed-rule : (x : PreExecution) (p : List Entry) (rf : ℕ → Option ℕ) (a b : ℕ)
    → (po x a b && placed_between x p a b) ≡ true → rule x p rf a b Rule4 ≡ true
placed-rule x p rf a b holds =
    let parts = and_parts (po x a b) (placed_between x p a b) holds in
    and_from _ _ parts.0 (or_right _ _ parts.1)

-- some member of the list
any-at : {X : Type 0} (f : X → Bool) (before : List X) (x : X) (after : List X) → f x ≡ true → list_any f (before ++ x ∷ after) ≡ true
any-at f [] x after holds = or_left (f x) (list_any f after) holds
any-at f (y ∷ before) x after holds = or_right (f y) (list_any f (before ++ x ∷ after)) (any-at f before x after holds)

pub joined : (x : PreExecution) (p : List Entry) (rf : ℕ → Option ℕ) (a b : ℕ)
    → (ppo x p rf a b ≡ true) ↔ ((page.ppo x rf a b || (po x a b && placed_between x p a b)) ≡ true)
joined x p rf a b = (
  any-or (rule x p rf a b) (page.rule x rf a b) (po x a b && placed_between x p a b) all_rules (rule-placed x p rf a b),
  λ holds. elim (or_cases _ _ holds) [
    | inl now ↦ page-ppo x p rf a b now
    | inr more ↦ any-at (rule x p rf a b) (Rule1 ∷ Rule2 ∷ Rule3 ∷ []) Rule4 (drop 4 all_rules) (placed-rule x p rf a b more)
  ],
)

-- ---- no placement

none-before : (a b : Classes) (hart : Option ℕ) (step : Option Step)
    → kind_orders a b (option_and_then (λ h. option_and_then (λ s. kind_at (slot_at h s.at) []) step) hart) ≡ false
none-before a b None step = refl
none-before a b (Some h) None = refl
none-before a b (Some h) (Some s) = refl

none-any : {X : Type 0} (f : X → Bool) (xs : List X) → ((x : X) → f x ≡ false) → list_any f xs ≡ true → ⊥
none-any f [] each found = false≢true found
none-any f (x ∷ xs) each found = elim (or_cases _ _ found) [
  | inl here ↦ false≢true (rw (← each x) here)
  | inr later ↦ none-any f xs each later
]

none-between : (x : PreExecution) (a b : ℕ) → placed_between x [] a b ≡ true → ⊥
none-between x a b = none-any (λ k. kind_orders (classes x a) (classes x b) (placed_before x [] a k)) _
    (λ k. none-before (classes x a) (classes x b) (operation x a).hart (slice_get (trace_of x a) k))

ppo-page : (x : PreExecution) (rf : ℕ → Option ℕ) (a b : ℕ) → ppo x [] rf a b ≡ true → page.ppo x rf a b ≡ true
ppo-page x rf a b holds = elim (or_cases _ _ ((joined x [] rf a b).0 holds)) [
  | inl now ↦ now
  | inr more ↦ absurd (none-between x a b (and_parts (po x a b) (placed_between x [] a b) more).1)
]

to-axioms : (x : PreExecution) (order : List ℕ) → model.ObeysAxioms x order → ObeysAxioms x [] order
to-axioms x order axioms = record {
  once = axioms.once;
  preserved = λ a b before. axioms.preserved a b (ppo-page x (source_in x order) a b before);
  values = axioms.values;
  atomic = axioms.atomic;
}

from-axioms : (x : PreExecution) (order : List ℕ) → ObeysAxioms x [] order → model.ObeysAxioms x order
from-axioms x order axioms = record {
  once = axioms.once;
  preserved = λ a b before. axioms.preserved a b (page-ppo x [] (source_in x order) a b before);
  values = axioms.values;
  atomic = axioms.atomic;
}

to-execution : (t : Test) (e : Execution) → model.IsExecution (program_of t) e → IsExecution t [] e
to-execution t e it = record { harts = it.harts; runs = it.runs; axioms = to-axioms (pre_execution t e.traces) e.order it.axioms }

from-execution : (t : Test) (e : Execution) → IsExecution t [] e → model.IsExecution (program_of t) e
from-execution t e it = record { harts = it.harts; runs = it.runs; axioms = from-axioms (pre_execution t e.traces) e.order it.axioms }

pub same_executions : (t : Test) (e : Execution) → model.IsExecution (program_of t) e ↔ IsExecution t [] e
same_executions t e = (to-execution t e, from-execution t e)

pub same_allowed : (t : Test) → model.Allows (program_of t) (outcome_of t) ↔ Allows t []
same_allowed t = (
  λ (e, it, shown). (e, record { execution = to-execution t e it; outcome = shown }),
  λ (e, it). (e, from-execution t e it.execution, it.outcome),
)
