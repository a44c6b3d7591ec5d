use Rattle.std.proofs.Common.{ℕ, Option, Some, ap, ◌∙◌}
use Rattle.fs_model.specs.declared.step.Step.{Step}
use Rattle.fs_region_refutation.proofs.Firsts.{no_firsts, firsts_more, firsts}
use Rattle.std.proofs.lemmas.List.{take_all}
use Rattle.fs_region_refutation.proofs.tables.places.Goals as goal

abbrev position : Step → Option ℕ
position step = Some step.at

pub loop-place-init : goal.loop-place-init
loop-place-init c = c.in_ok-table.ensures ∙ no_firsts position c.args.positions

pub loop-place-preserved : goal.loop-place-preserved
loop-place-preserved c =
    firsts_more position c.args.positions c.args.steps.now c.loop-place.place c.index-steps-place.result _ _ c.loop-place-test.true c.index-steps-place.is
    c.loop-place.invariant c.put_first.ensures.length c.put_first.ensures.each

pub returns : goal.returns
returns c =
    c.loop-place.invariant ∙ ap (firsts position c.args.positions) (take_all c.loop-place.place c.args.steps.now c.loop-place-test.false)
