use Rattle.std.proofs.Common.{◌≤◌, ◌∙◌, sym, subst, ◌+◌, [], ap, refl, take}
use Rattle.fs_litmus_syntax.specs.inner.Listings.{marked}
use Rattle.fs_litmus_syntax.specs.Labels.{IsStray}
use Rattle.fs_kinds.specs.FaultOrder.{IsFirstOf, earliest}
use Rattle.fs_litmus_syntax.proofs.LabelLemmas.{marked_whole, after_small, count_step, stray_step}
use Rattle.fs_litmus_syntax.proofs.branches.first_stray.Goals as goal

pub loop-mark-preserved : goal.loop-mark-preserved
loop-mark-preserved c =
    let hart = c.args.listing.now in
    record {
      small = subst (λ n. n ≤ c.loop-mark.mark-index + 1) (sym (c.number_after-number.ensures [])) (after_small _ _ _ c.loop-mark.invariant.small);
      count = λ code. c.number_after-number.ensures code ∙ count_step _ _ _ _ _ _ c.loop-mark-test.true refl (c.loop-mark.invariant.count code);
      first = λ code.
          let fault = c.earliest-fault.ensures ∙ ap (λ o. earliest c.loop-mark.fault o) (c.stray_of.ensures code) in
          subst (λ o. IsFirstOf (IsStray hart (marked code (take (c.loop-mark.mark-index + 1) c.deref-mark-items.result.now))) o) (sym fault) (stray_step _ hart _ _ _ _ _ _ _ c.loop-mark-test.true refl (c.loop-mark.invariant.count code) c.requires (c.loop-mark.invariant.first code));
    }

pub returns : goal.returns
returns c = subst (λ l. IsFirstOf (IsStray c.args.listing.now l) c.loop-mark.fault) (marked_whole _ _ _ _ c.deref-mark-items.ensures.value c.loop-mark-test.false ∙ c.listing.view_is) (c.loop-mark.invariant.first c.listing.inside.code.items)
