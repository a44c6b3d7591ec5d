use Rattle.serde_json.specs.View.{view}
use Rattle.fs_cert_json.proofs.Inferences.{no_first, no_second}
use Rattle.fs_cert_json.proofs.operands.two_in.Goals as goal

pub returns-in_err-operation_in : goal.returns-in_err-operation_in
returns-in_err-operation_in c = rw c.from_residual.ensures (no_first (view c.args.first.now) (view c.args.second.now)
    c.in_err-operation_in.ensures)

pub returns-in_err-operation_in-2 : goal.returns-in_err-operation_in-2
returns-in_err-operation_in-2 c =
    rw c.from_residual-in_err-operation_in-2.ensures (no_second (view c.args.first.now) (view c.args.second.now)
    c.in_err-operation_in-2.ensures)
