use Rattle.std.proofs.Common.{arith}
use Rattle.fs_app_test.proofs.Growing.{kinds_next, kinds_none}
use Rattle.fs_app_test.proofs.kinds.kinds_of.Goals as goal

pub loop-row-init : goal.loop-row-init
loop-row-init c = kinds_none c.new-kinds.result c.new-kinds.ensures.empty

pub loop-row-preserved : goal.loop-row-preserved
loop-row-preserved c =
    kinds_next c.loop-row.kinds c.add.new.kinds c.args.rows.now c.loop-row.row-index _ (omega arith) c.loop-row.invariant c.in_ok-add.ensures
