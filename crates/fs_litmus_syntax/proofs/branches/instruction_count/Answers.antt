use Rattle.std.proofs.Common.{◌≤◌, ◌∙◌, sym, subst, ◌+◌, [], refl}
use Rattle.fs_litmus_syntax.proofs.LabelLemmas.{after_small, count_step}
use Rattle.fs_litmus_syntax.proofs.branches.instruction_count.Goals as goal

pub loop-mark-preserved : goal.loop-mark-preserved
loop-mark-preserved c = record {
  small = subst (λ n. n ≤ c.loop-mark.mark-index + 1) (sym (c.number_after-number.ensures [])) (after_small _ _ _ c.loop-mark.invariant.small);
  count = λ code. c.number_after-number.ensures code ∙ count_step _ _ _ _ _ _ c.loop-mark-test.true refl (c.loop-mark.invariant.count code);
}
