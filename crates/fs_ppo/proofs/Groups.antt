-- Preserved program order without placed fences, by groups of rules.
use Rattle.std.proofs.Common.{◌≡◌, ℕ, ◌+◌, ◌&&◌, ◌||◌, Bool, true, false, Option, None, Some, option_and_then, List, [], ◌∷◌, refl, sym, ◌∙◌}
use Rattle.std.specs.Prelude.{slice_get}
use Rattle.std.specs.List.{list_any}
use Rattle.fs_kinds.specs.declared.kind.Classes.{Classes}
use Rattle.fs_kinds.specs.Placement.{kind_at}
use Rattle.fs_model.specs.Slots.{slot_at}
use Rattle.fs_model.specs.declared.step.Step.{Step}
use Rattle.fs_model.specs.Numbers.{between}
use Rattle.fs_model.specs.Operations.{PreExecution, operation, classes, place, trace_of, instr_at, po}
use Rattle.fs_model.specs.Fences.{instr_orders, kind_orders, placed_before}
use Rattle.fs_model.specs.Preserved.{rule, ppo, Rule1, Rule2, Rule3, Rule4, Rule5, Rule6, Rule7, Rule8, Rule9, Rule10, Rule11, Rule12, Rule13}
use Rattle.fs_ppo.specs.inner.Groups.{by_address, by_synchronization, by_dependency, by_pipeline}

or_false : (b : Bool) → (b || false) ≡ b
or_false true = refl
or_false false = refl

grouped : (r1 r2 r3 r4 r5 r6 r7 r8 r9 r10 r11 r12 r13 : Bool)
    → (r1 || (r2 || (r3 || (r4 || (r5 || (r6 || (r7 || (r8 || (r9 || (r10 || (r11 || (r12 || (r13 || false)))))))))))))
    ≡ ((r1 || (r2 || r3)) || ((r4 || (r5 || (r6 || (r7 || r8)))) || ((r9 || (r10 || r11)) || (r12 || r13))))
grouped true r2 r3 r4 r5 r6 r7 r8 r9 r10 r11 r12 r13 = refl
grouped false true r3 r4 r5 r6 r7 r8 r9 r10 r11 r12 r13 = refl
grouped false false true r4 r5 r6 r7 r8 r9 r10 r11 r12 r13 = refl
grouped false false false true r5 r6 r7 r8 r9 r10 r11 r12 r13 = refl
grouped false false false false true r6 r7 r8 r9 r10 r11 r12 r13 = refl
grouped false false false false false true r7 r8 r9 r10 r11 r12 r13 = refl
grouped false false false false false false true r8 r9 r10 r11 r12 r13 = refl
grouped false false false false false false false true r9 r10 r11 r12 r13 = refl
grouped false false false false false false false false true r10 r11 r12 r13 = refl
grouped false false false false false false false false false true r11 r12 r13 = refl
grouped false false false false false false false false false false true r12 r13 = refl
grouped false false false false false false false false false false false true r13 = refl
grouped false false false false false false false false false false false false true = refl
grouped false false false false false false false false false false false false false = refl

pub in_groups : (x : PreExecution) (rf : ℕ → Option ℕ) (a b : ℕ)
    → ppo x [] rf a b ≡ (by_address x rf a b || (by_synchronization x rf a b || (by_dependency x rf a b || by_pipeline x rf a b)))
in_groups x rf a b = grouped (rule x [] rf a b Rule1) (rule x [] rf a b Rule2) (rule x [] rf a b Rule3) (rule x [] rf a b Rule4) (rule x [] rf a b Rule5) (rule x [] rf a b Rule6) (rule x [] rf a b Rule7) (rule x [] rf a b Rule8) (rule x [] rf a b Rule9) (rule x [] rf a b Rule10) (rule x [] rf a b Rule11) (rule x [] rf a b Rule12) (rule x [] rf a b Rule13)

none_ordered : (first second : Classes) (hart : Option ℕ) (step : Option Step)
    → kind_orders first second (option_and_then (λ h. option_and_then (λ s. kind_at (slot_at h s.at) []) step) hart) ≡ false
none_ordered first second None step = refl
none_ordered first second (Some h) None = refl
none_ordered first second (Some h) (Some s) = refl

none_found : (f : ℕ → Bool) (xs : List ℕ) → ((z : ℕ) → f z ≡ false) → list_any f xs ≡ false
none_found f [] none = refl
none_found f (z ∷ zs) none = rw (none z, none_found f zs none) refl

-- without placed fences rule 4 is that of the test's own
pub written_alone : (x : PreExecution) (rf : ℕ → Option ℕ) (a b : ℕ) → po x a b ≡ true
    → rule x [] rf a b Rule4 ≡ list_any (λ k. instr_orders (classes x a) (classes x b) (instr_at (trace_of x a) k)) (between (place x a) (place x b))
written_alone x rf a b before =
    let none = none_found (λ k. kind_orders (classes x a) (classes x b) (placed_before x [] a k)) (between (place x a) (place x b + 1))
    (λ k. none_ordered (classes x a) (classes x b) (operation x a).hart (slice_get (trace_of x a) k)) in
    rw (before, none) (or_false (list_any (λ k. instr_orders (classes x a) (classes x b) (instr_at (trace_of x a) k)) (between (place x a) (place x b))))
