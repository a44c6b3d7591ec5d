use Rattle.std.proofs.Common.{◌∙◌, ap, sym}
use Rattle.fs_judge_outcomes.specs.inner.Parts.{is_within}
use Rattle.fs_judge_outcomes.proofs.Learning.{left_within}
use Rattle.fs_judge_outcomes.proofs.barren.is_barren.Goals as goal

pub returns-then-is_within : goal.returns-then-is_within
returns-then-is_within c = λ yes s inside.
    let within = ap (is_within c.args.part.now) (sym c.as_slice-then-begins_at.ensures) ∙ sym c.is_within.ensures ∙ c.if-is_within.true in
    left_within c.args.barren.now c.loop-wider.wider-index c.wider-item.result c.args.part.now s c.loop-wider-test.true c.wider-item.is within inside
