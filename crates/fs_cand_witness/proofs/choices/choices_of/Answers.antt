use Rattle.std.proofs.Common.{sym, ◌∙◌}
use Rattle.fs_model.specs.declared.step.Step.{Step}
use Rattle.fs_model.specs.Choices.{choice_by}
use Rattle.fs_cand_witness.proofs.Listing.{given, passed}
use Rattle.fs_cand_witness.proofs.choices.choices_of.Goals.{in-Some+in_ok-push, in_default}
use Rattle.fs_cand_witness.proofs.choices.choices_of.Goals as goal

pub loop-step-preserved : goal.loop-step-preserved
loop-step-preserved c = elim c.match-choice.branch [
  | in-Some+in_ok-push w ↦ rw w.choices-is (given (λ (s : Step). choice_by s.instr s) c.args.steps.now c.loop-step.step-index c.step-item.result c.loop-step-test.true c.step-item.is
      w.in-Some.choice c.loop-step.choices.items _ (sym c.choice.ensures ∙ w.in-Some.is) c.loop-step.invariant w.in_ok-push.ensures.items)
  | in_default w ↦ rw w.choices-is (passed (λ (s : Step). choice_by s.instr s) c.args.steps.now c.loop-step.step-index c.step-item.result c.loop-step-test.true c.step-item.is
      c.loop-step.choices.items (sym c.choice.ensures ∙ w.in_default.is) c.loop-step.invariant)
]
