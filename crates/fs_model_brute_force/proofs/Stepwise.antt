-- A run step by step: a step of a hart is the one that it makes with the step's own choice.
use Rattle.std.proofs.Common.{◌≡◌, ℕ, ◌≤◌, Bool, true, false, Some, List, length, sym, ◌∙◌, ap, subst}
use Rattle.std.specs.Prelude.{slice_get}
use Rattle.std.specs.Option.{option_to_list}
use Rattle.std.proofs.lemmas.Bool.{false≢true}
use Rattle.fs_instr.specs.declared.instr.Instr.{Instr}
use Rattle.fs_model.specs.declared.hart.Hart.{Hart}
use Rattle.fs_model.specs.declared.step.Step.{Step}
use Rattle.fs_model.specs.declared.step.Stop.{Stop}
use Rattle.fs_model.specs.contracts.step.StepPartialEq.TheImpl.{eq-value}
use Rattle.fs_model.specs.Trace.{AreSteps, IsStep, hart_after}
use Rattle.fs_model.specs.Choices.{Makes, StopsAt, choice_by}
use Rattle.fs_model.proofs.Runs.{made, same_instr}
use Rattle.fs_model.proofs.Stepping.{made_once}
use Rattle.fs_hart.proofs.Along.{is_step}
use Rattle.fs_hart.proofs.Options.{no_step_stopped}
use Rattle.fs_model_brute_force.specs.Decisions.{Decides}
use Rattle.fs_model_brute_force.proofs.SameSteps.{same_step, itself}

-- the steps lead the hart from this state to the end of its code
abbrev pub Finish : ℕ → List Instr → Hart → List Step → Type 0
Finish n code h steps = AreSteps n code h steps × (length code ≤ (hart_after h steps).at)

-- the step u that the hart makes with the choice of s decides whether s is its step
pub made_decides : (n : ℕ) (code : List Instr) (h : Hart) (i : Instr) (s u : Step) (test : Bool) → slice_get code h.at ≡ Some i
    → Makes n h i (choice_by i s) u → test ≡ eq-value.it u s → Decides test (IsStep n code h s)
made_decides n code h i s u true e m t = subst (IsStep n code h) (same_step u s (sym t)) (is_step n code h i (choice_by i s) u e m)
made_decides n code h i s u false e m t = λ r.
    let known : u ≡ s = made_once n h i (choice_by i s) u s m (made n code h i s e r) in
    false≢true (t ∙ subst (λ x. eq-value.it u x ≡ true) known (itself u))

-- where the hart stops at the choice of s, s is not its step
pub stop_decides : (n : ℕ) (code : List Instr) (h : Hart) (i : Instr) (s : Step) (stop : Stop) → slice_get code h.at ≡ Some i
    → StopsAt n h i (option_to_list (choice_by i s)) stop → IsStep n code h s → ⊥
stop_decides n code h i s stop e b r =
    no_step_stopped n code h i (choice_by i s) stop s e b r (ap (λ j. choice_by j s) (same_instr (sym r.1 ∙ e)))
