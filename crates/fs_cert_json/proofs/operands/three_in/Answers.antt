use Rattle.serde_json.specs.View.{view}
use Rattle.fs_cert_json.proofs.Inferences.{no_three}
use Rattle.fs_cert_json.proofs.operands.three_in.Goals as goal

pub returns-in_err-operation_in : goal.returns-in_err-operation_in
returns-in_err-operation_in c =
    rw c.from_residual.ensures (no_three (view c.args.first.now) (view c.args.second.now) (view c.args.third.now)
    (λ x y z p q r. c.in_err-operation_in.ensures x p))

pub returns-in_err-operation_in-2 : goal.returns-in_err-operation_in-2
returns-in_err-operation_in-2 c =
    rw c.from_residual-in_err-operation_in-2.ensures
    (no_three (view c.args.first.now) (view c.args.second.now) (view c.args.third.now)
    (λ x y z p q r. c.in_err-operation_in-2.ensures y q))

pub returns-in_err-operation_in-3 : goal.returns-in_err-operation_in-3
returns-in_err-operation_in-3 c =
    rw c.from_residual-in_err-operation_in-3.ensures
    (no_three (view c.args.first.now) (view c.args.second.now) (view c.args.third.now)
    (λ x y z p q r. c.in_err-operation_in-3.ensures z r))
