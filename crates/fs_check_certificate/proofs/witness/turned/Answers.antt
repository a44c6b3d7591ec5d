use Rattle.std.proofs.Common.{length, ap, ◌∙◌, arith}
use Rattle.fs_model.specs.Operations.{operations}
use Rattle.fs_check.specs.Ordered.{runs_in}
use Rattle.fs_check_certificate.specs.inner.Bearing.{turned_after}
use Rattle.fs_check_certificate.proofs.Bearing.{one_row_more, all_rows}
use Rattle.fs_check_certificate.proofs.witness.turned.Goals as goal

pub loop-a-preserved : goal.loop-a-preserved
loop-a-preserved c =
    one_row_more (turned_after c.args.test.now c.args.ordered.now) c.loop-a.turned.items _ _ c.loop-a.a c.loop-a.invariant
    (c.deref.ensures.value ∙ c.in_ok-turned_after.ensures) c.in_ok-extend_from_slice.ensures.items

pub returns : goal.returns
returns c =
    all_rows (turned_after c.args.test.now c.args.ordered.now) c.loop-a.turned.items c.loop-a.a (length (operations (runs_in c.args.test.now c.args.ordered.now)))
    c.loop-a.invariant (omega (arith, c.loop-a-test.false, c.loop-a.auto.a-end, ap length c.as_slice-a-end.ensures, ap length c.requires.made.operations))
