use Rattle.std.proofs.Common.{◌∙◌}
use Rattle.fs_region_refutation.proofs.Columns.{columns_more}
use Rattle.fs_region_refutation.proofs.doings.columns.Goals as goal

pub loop-at-preserved : goal.loop-at-preserved
loop-at-preserved c =
    c.in_ok-push.ensures.items
    ∙ columns_more c.args.code.now c.args.traces.now c.loop-at.columns.items c.in_ok-column_of.field-0 c.loop-at.at c.loop-at.invariant c.in_ok-column_of.ensures
