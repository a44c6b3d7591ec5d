use Rattle.std.proofs.Common.{sym, ap}
use Rattle.fs_hart.specs.Steps.{steps_in}
use Rattle.fs_check.proofs.Found.{named_there}
use Rattle.fs_check.proofs.order.operation_name.Goals as goal

pub unwrap-requires : goal.unwrap-requires
unwrap-requires c =
    (named_there c.args.test.now c.args.ordered.now c.requires.ordered c.args.a c.requires.there c.as_slice.result.now c.index-as_slice-a.result _ c.name.result
    c.as_slice.ensures (sym c.index-as_slice-a.is) (ap steps_in c.as_slice-2.ensures) c.name.ensures).0
