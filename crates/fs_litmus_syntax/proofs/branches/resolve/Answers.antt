use Rattle.std.proofs.Common.{append-nil, option_map, [], ◌∷◌, ◌++◌, ◌∙◌, sym, ap, take}
use Rattle.fs_litmus_syntax.specs.inner.Listings.{marked}
use Rattle.fs_litmus_syntax.specs.Labels.{resolved, with_label}
use Rattle.fs_litmus_syntax.proofs.LabelLemmas.{resolved_next}
use Rattle.fs_litmus_syntax.proofs.ListingLemmas.{instruction_at}
use Rattle.fs_litmus_syntax.proofs.branches.resolve.Goals as goal
use Rattle.fs_litmus_syntax.proofs.branches.resolve.Goals.{in-Instruction+in_ok-push-in-Instruction, in-Label}

pub loop-mark-preserved : goal.loop-mark-preserved
loop-mark-preserved c =
    let hart = c.args.listing.now in
    let done = resolved hart (marked c.listing.inside.code.items (take c.loop-mark.mark-index c.deref-mark-items.result.now)) in
    elim c.match-mark.branch [
      | in-Instruction+in_ok-push-in-Instruction w ↦ ap (λ v. v.items) w.code-is ∙ w.in_ok-push-in-Instruction.ensures.items ∙ ap (λ l. l ++ w.with_label.result ∷ []) c.loop-mark.invariant ∙ ap (λ i. done ++ i ∷ []) (w.with_label.ensures ∙ ap (λ i. with_label hart i (option_map (λ x. x.now) w.in-Instruction.target)) (instruction_at _ _ _ _ _ _ _ _ _ c.listing.invariant c.deref-mark-items.ensures.value c.loop-mark-test.true w.in-Instruction.is w.index.ensures)) ∙ sym (resolved_next _ hart c.deref-mark-items.result.now c.loop-mark.mark-index _ _ c.loop-mark-test.true w.in-Instruction.is)
      | in-Label w ↦ ap (λ v. v.items) w.code-is ∙ c.loop-mark.invariant ∙ sym (resolved_next _ hart c.deref-mark-items.result.now c.loop-mark.mark-index _ _ c.loop-mark-test.true w.in-Label.is ∙ append-nil done)
    ]
