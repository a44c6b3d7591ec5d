-- The fenced execution shows what the execution shows.
use Rattle.std.proofs.Common.{◌≡◌, ℕ, not, ◌==◌, List, [], ◌∷◌, ◌++◌, Option, None, Some, refl, ap, ◌∙◌}
use Rattle.fs_kinds.specs.declared.kind.Kind.{Kind}
use Rattle.fs_kinds.specs.declared.placement.Entry.{Entry}
use Rattle.fs_kinds.specs.Placement.{kind_at}
use Rattle.fs_model.specs.declared.test.Test.{Test}
use Rattle.fs_model.specs.Condition.{Condition, condition_of, Always, Never, RegisterIs, LocationIs, Deny, Both, Either}
use Rattle.fs_model.specs.Slots.{slot_at}
use Rattle.fs_model.specs.Fenced.{fenced, moved}
use Rattle.fs_model.specs.declared.hart.Hart.{Hart}
use Rattle.fs_model.specs.declared.step.Step.{Step}
use Rattle.fs_model.specs.Execute.{executed, read}
use Rattle.fs_model.specs.Trace.{after_step, hart_after, start_with}
use Rattle.fs_model.specs.Operations.{steps_of}
use Rattle.fs_model.specs.Execution.{Execution, pre_execution, registers_of}
use Rattle.fs_model.specs.Shows.{holds, is_outcome, final_register, final_word, has_outcome}
use Rattle.fs_model_laws.specs.Fenced.{fence_step, fence_steps, moved_step, fenced_steps, fenced_traces, fenced_execution}
use Rattle.fs_model_laws.proofs.FencedDepends.{and_same, or_same}
use Rattle.fs_model_laws.proofs.FencedInstr.{fence_is_quiet, same_executed}
use Rattle.fs_model_laws.proofs.FencedOperations.{trace_fenced}
use Rattle.fs_model_laws.proofs.FencedAlike.{final_word_same}
use Rattle.fs_model_laws.proofs.FencedFences.{fenced_alike}

module _ (p : List Entry) (hart : ℕ) where
  step_registers : (h k : Hart) (s : Step) → k.registers ≡ h.registers
      → (after_step k (moved_step p hart s)).registers ≡ (after_step h s).registers
  step_registers h k s e =
      ap (λ x. executed x s.loaded s.stored (moved p hart s.instr)) e ∙ same_executed p hart s.instr h.registers s.loaded s.stored

  fence_registers : (k : Hart) (at : ℕ) (kind : Kind) → (after_step k (fence_step p hart at kind)).registers ≡ k.registers
  fence_registers k at kind = (fence_is_quiet kind).executed k.registers None None

  with_fence_registers : (h k : Hart) (s : Step) (o : Option Kind) (rest ss : List Step) → k.registers ≡ h.registers
      → ((h k : Hart) → k.registers ≡ h.registers → (hart_after k rest).registers ≡ (hart_after h ss).registers)
      → (hart_after k ((fence_steps p hart s.at o ++ moved_step p hart s ∷ []) ++ rest)).registers ≡
      (hart_after (after_step h s) ss).registers
  with_fence_registers h k s None rest ss e more =
      more (after_step h s) (after_step k (moved_step p hart s)) (step_registers h k s e)
  with_fence_registers h k s (Some kind) rest ss e more =
      let fence = after_step k (fence_step p hart s.at kind) in
      more (after_step h s) (after_step fence (moved_step p hart s)) (step_registers h fence s (fence_registers k s.at kind ∙ e))

  pub registers_same : (ss : List Step) (h k : Hart) → k.registers ≡ h.registers
      → (hart_after k (fenced_steps p (hart, ss))).registers ≡ (hart_after h ss).registers
  registers_same [] h k e = e
  registers_same (s ∷ ss) h k e =
      with_fence_registers h k s (kind_at (slot_at hart s.at) p) (fenced_steps p (hart, ss)) ss e (registers_same ss)

holds_same : (f g : ℕ → ℕ → ℕ) (v w : ℕ → ℕ) → ((hart reg : ℕ) → f hart reg ≡ g hart reg) → ((k : ℕ) → v k ≡ w k)
    → (c : Condition) → holds f v c ≡ holds g w c
holds_same f g v w registers words Always = refl
holds_same f g v w registers words Never = refl
holds_same f g v w registers words (RegisterIs hart reg word) = ap (λ x. x == word) (registers hart reg)
holds_same f g v w registers words (LocationIs location word) = ap (λ x. x == word) (words location)
holds_same f g v w registers words (Deny c) = ap not (holds_same f g v w registers words c)
holds_same f g v w registers words (Both c d) =
    and_same _ _ _ _ (holds_same f g v w registers words c) (holds_same f g v w registers words d)
holds_same f g v w registers words (Either c d) =
    or_same _ _ _ _ (holds_same f g v w registers words c) (holds_same f g v w registers words d)

register_same : (t : Test) (p : List Entry) (e : Execution) (hart reg : ℕ)
    → final_register (fenced t p) (fenced_traces p e.traces) hart reg ≡ final_register t e.traces hart reg
register_same t p e hart reg =
    let h = start_with (registers_of t hart) in
    ap (λ ss. read (hart_after h ss).registers reg) (trace_fenced p e.traces hart)
    ∙ ap (λ x. read x reg) (registers_same p hart (steps_of e.traces hart) h h refl)

pub outcome_same : (t : Test) (p : List Entry) (e : Execution) → has_outcome (fenced t p) (fenced_execution p e) ≡ has_outcome t e
outcome_same t p e =
    let x = pre_execution t e.traces in
    let y = pre_execution (fenced t p) (fenced_traces p e.traces) in
    let words = final_word_same x p y [] (fenced_alike p x [] (λ s. refl)) e.order in
    ap (is_outcome t.quantifier)
    (holds_same (final_register (fenced t p) (fenced_traces p e.traces)) (final_register t e.traces)
    (final_word y e.order) (final_word x e.order) (register_same t p e) words (condition_of t.condition))
