use Rattle.std.proofs.Common.{◌≡◌, ◌∙◌, ◌≤◌, length, sym, ap, ap₂, subst, All, arith}
use Rattle.fs_model.specs.Operations.{operations}
use Rattle.fs_model.specs.Execution.{pre_execution}
use Rattle.fs_hart.specs.Steps.{steps_in}
use Rattle.fs_cand_listing.specs.inner.Chosen.{AreChoices}
use Rattle.fs_cand_listing.specs.inner.Tested.{any_pair_among}
use Rattle.fs_cand_listing.proofs.AllRuns.{count_fits}
use Rattle.fs_cand_listing.proofs.prepared.Prepared.of.Goals as goal

pub operations-requires-clause-harts : goal.operations-requires-clause-harts
operations-requires-clause-harts c = subst (λ ts. length ts ≤ 8) (sym c.as_slice.ensures) c.requires.runs.harts

pub operations-requires-clause-steps : goal.operations-requires-clause-steps
operations-requires-clause-steps c = subst (λ ts. All (λ trace. length trace.steps ≤ 32) ts) (sym c.as_slice.ensures) c.requires.runs.short

pub of-requires : goal.of-requires
of-requires c =
    let t = c.args.test.now in
    let made = c.as_slice-3.ensures ∙ c.in_ok-operations.ensures.ok ∙ ap (λ ts. operations (pre_execution t (steps_in ts))) c.as_slice.ensures in
    let long = ap length made in
    let few = c.requires.runs.few in
    omega (arith, long, few)

pub returns-clause-ok : goal.returns-clause-ok
returns-clause-ok c =
    let t = c.args.test.now in
    let x = pre_execution t (steps_in c.args.traces) in
    let made : c.in_ok-operations.operations ≡ operations x =
    c.in_ok-operations.ensures.ok ∙ ap (λ ts. operations (pre_execution t (steps_in ts))) c.as_slice.ensures in
    let long = ap length made in
    let few = c.requires.runs.few in
    record {
      operations = made;
      choices = subst (λ ls. AreChoices x (length ls) c.in_ok-choices.choices) c.as_slice-2.ensures
          (c.in_ok-choices.ensures x (c.as_slice-3.ensures ∙ made));
      final = c.requires.runs.final;
      harts = c.requires.runs.harts;
      short = c.requires.runs.short;
      few = omega (arith, long, few);
      pairs = c.any_pair-has_pairs.ensures ∙ ap₂ (λ ts. any_pair_among (steps_in ts)) c.as_slice-4.ensures c.as_slice-5.ensures;
    }

pub overflow_cast-locations : goal.overflow_cast-locations
overflow_cast-locations c = count_fits _ (length c.args.test.now.locations) (ap length c.as_slice-2.ensures) c.requires.test.locations
