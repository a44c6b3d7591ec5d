-- Placed fences add the edges of rule 4, and nothing else, to the judged relation without them.
use Rattle.std.proofs.Common.{◌≡◌, ℕ, ◌+◌, ◌||◌, inl, inr, Bool, true, false, Option, None, Some, option_and_then, List, [], ◌∷◌, refl, sym, ◌∙◌}
use Rattle.std.specs.Prelude.{slice_get}
use Rattle.std.specs.List.{list_any}
use Rattle.std.proofs.lemmas.Bool.{false≢true, and_parts, and_from, or_cases, or_left, or_right, eqb-false}
use Rattle.fs_kinds.specs.declared.kind.Classes.{Classes}
use Rattle.fs_kinds.specs.declared.placement.Entry.{Entry}
use Rattle.fs_kinds.specs.Placement.{kind_at}
use Rattle.fs_model.specs.declared.test.Test.{Test}
use Rattle.fs_model.specs.Slots.{slot_at}
use Rattle.fs_model.specs.declared.step.Step.{Step}
use Rattle.fs_model.specs.Numbers.{between}
use Rattle.fs_model.specs.Operations.{PreExecution, operation, classes, place, trace_of, instr_at, po}
use Rattle.fs_model.specs.Fences.{fence_between, instr_orders, kind_orders, placed_before}
use Rattle.fs_model.specs.Preserved.{Rule, Rule1, Rule2, Rule3, Rule4, Rule5, Rule6, Rule7, Rule8, Rule9, Rule10, Rule11, Rule12, Rule13, all_rules, rule, ppo}
use Rattle.fs_cert_evidence.specs.Candidates.{Candidate, runs_of, rf}
use Rattle.fs_cert_evidence.specs.Judged.{is_judged}
use Rattle.fs_model.proofs.ByRule.{any_there}
use Rattle.fs_verdict_laws.proofs.Rules.{some_found, judged_ppo, judged_rf, judged_co, judged_fr, ByRule, BySource, ByOrder, ByRead, caused}

-- ---- without placed fences

none_ordered : (first second : Classes) (hart : Option ℕ) (step : Option Step)
    → kind_orders first second (option_and_then (λ h. option_and_then (λ s. kind_at (slot_at h s.at) []) step) hart) ≡ false
none_ordered first second None step = refl
none_ordered first second (Some h) None = refl
none_ordered first second (Some h) (Some s) = refl

none_found : {X : Type 0} (f : X → Bool) (xs : List X) → ((z : X) → f z ≡ false) → list_any f xs ≡ false
none_found f [] none = refl
none_found f (z ∷ zs) none = rw (none z, none_found f zs none) refl

-- a written fence orders them, and a placed one does
abbrev is_written : PreExecution → ℕ → ℕ → Bool
is_written x a b = list_any (λ k. instr_orders (classes x a) (classes x b) (instr_at (trace_of x a) k)) (between (place x a) (place x b))

abbrev is_placed : PreExecution → List Entry → ℕ → ℕ → Bool
is_placed x p a b = list_any (λ k. kind_orders (classes x a) (classes x b) (placed_before x p a k)) (between (place x a) (place x b + 1))

-- written fences order with any placement
fence_more : (x : PreExecution) (p : List Entry) (a b : ℕ) → fence_between x [] a b ≡ true → fence_between x p a b ≡ true
fence_more x p a b fenced = elim (or_cases (is_written x a b) (is_placed x [] a b) fenced) [
  | inl written ↦ or_left (is_written x a b) (is_placed x p a b) written
  | inr placed ↦ absurd (false≢true
      (sym (none_found (λ k. kind_orders (classes x a) (classes x b) (placed_before x [] a k)) (between (place x a) (place x b + 1))
      (λ k. none_ordered (classes x a) (classes x b) (operation x a).hart (slice_get (trace_of x a) k)))
      ∙ placed))
]

-- ---- rules

module _ (x : PreExecution) (p : List Entry) (src : ℕ → Option ℕ) (a b : ℕ) where
  -- a rule without placed fences holds with them
  rule_more : (r : Rule) → rule x [] src a b r ≡ true → rule x p src a b r ≡ true
  rule_more Rule4 holds =
      let parts = and_parts (po x a b) (fence_between x [] a b) holds in
      and_from (po x a b) (fence_between x p a b) parts.0 (fence_more x p a b parts.1)
  rule_more Rule1 holds = holds
  rule_more Rule2 holds = holds
  rule_more Rule3 holds = holds
  rule_more Rule5 holds = holds
  rule_more Rule6 holds = holds
  rule_more Rule7 holds = holds
  rule_more Rule8 holds = holds
  rule_more Rule9 holds = holds
  rule_more Rule10 holds = holds
  rule_more Rule11 holds = holds
  rule_more Rule12 holds = holds
  rule_more Rule13 holds = holds

  ppo_more : ppo x [] src a b ≡ true → ppo x p src a b ≡ true
  ppo_more holds = let one = some_found (rule x [] src a b) all_rules holds in any_there (rule x p src a b) one.0 (rule_more one.0 one.1)

  other_rule : (r : Rule) → rule x [] src a b r ≡ true → (ppo x [] src a b || rule x p src a b Rule4) ≡ true
  other_rule r holds = or_left _ _ (any_there (rule x [] src a b) r holds)

  -- each rule but the fourth knows nothing of placed fences
  split_rule : (r : Rule) → rule x p src a b r ≡ true → (ppo x [] src a b || rule x p src a b Rule4) ≡ true
  split_rule Rule4 holds = or_right (ppo x [] src a b) _ holds
  split_rule Rule1 holds = other_rule Rule1 holds
  split_rule Rule2 holds = other_rule Rule2 holds
  split_rule Rule3 holds = other_rule Rule3 holds
  split_rule Rule5 holds = other_rule Rule5 holds
  split_rule Rule6 holds = other_rule Rule6 holds
  split_rule Rule7 holds = other_rule Rule7 holds
  split_rule Rule8 holds = other_rule Rule8 holds
  split_rule Rule9 holds = other_rule Rule9 holds
  split_rule Rule10 holds = other_rule Rule10 holds
  split_rule Rule11 holds = other_rule Rule11 holds
  split_rule Rule12 holds = other_rule Rule12 holds
  split_rule Rule13 holds = other_rule Rule13 holds

  ppo_split : ppo x p src a b ≡ true → (ppo x [] src a b || rule x p src a b Rule4) ≡ true
  ppo_split holds = let one = some_found (rule x p src a b) all_rules holds in split_rule one.0 one.1

-- ---- the judged relation

both_true : (u v : Bool) → (u ≡ true → v ≡ true) → (v ≡ true → u ≡ true) → u ≡ v
both_true true v there back = sym (there refl)
both_true false true there back = absurd (false≢true (back refl))
both_true false false there back = refl

module _ (t : Test) (c : Candidate) (a b : ℕ) where
  judged_more : (p : List Entry) → is_judged (runs_of t c) [] c a b ≡ true → is_judged (runs_of t c) p c a b ≡ true
  judged_more p edge = elim (caused t [] c a b edge) [
    | ByRule preserved ↦ judged_ppo t p c a b (ppo_more (runs_of t c) p (rf c) a b preserved)
    | BySource source far ↦ judged_rf t p c a b source far
    | ByOrder later ↦ judged_co t p c a b later
    | ByRead s source later apart ↦ judged_fr t p c a b s source later (eqb-false a b apart)
  ]

  judged_split : (p : List Entry) → is_judged (runs_of t c) p c a b ≡ true → (is_judged (runs_of t c) [] c a b || rule (runs_of t c) p (rf c) a b Rule4) ≡ true
  judged_split p edge = elim (caused t p c a b edge) [
    | ByRule preserved ↦ (elim (or_cases _ _ (ppo_split (runs_of t c) p (rf c) a b preserved)) [
      | inl without ↦ or_left _ _ (judged_ppo t [] c a b without)
      | inr fence ↦ or_right (is_judged (runs_of t c) [] c a b) _ fence
    ])
    | BySource source far ↦ or_left _ _ (judged_rf t [] c a b source far)
    | ByOrder later ↦ or_left _ _ (judged_co t [] c a b later)
    | ByRead s source later apart ↦ or_left _ _ (judged_fr t [] c a b s source later (eqb-false a b apart))
  ]

pub fences_add : (t : Test) (p : List Entry) (c : Candidate) (a b : ℕ)
    → is_judged (runs_of t c) p c a b ≡ (is_judged (runs_of t c) [] c a b || rule (runs_of t c) p (rf c) a b Rule4)
fences_add t p c a b =
    both_true (is_judged (runs_of t c) p c a b) (is_judged (runs_of t c) [] c a b || rule (runs_of t c) p (rf c) a b Rule4) (judged_split t c a b p)
    (λ split. elim (or_cases _ _ split) [
      | inl without ↦ judged_more t c a b p without
      | inr fence ↦ judged_ppo t p c a b (any_there (rule (runs_of t c) p (rf c) a b) Rule4 fence)
    ])
