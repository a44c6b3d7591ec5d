use Rattle.serde_json.specs.View.{view}
use Rattle.fs_cert_json.proofs.Inferences.{no_one}
use Rattle.fs_cert_json.proofs.operands.one_in.Goals as goal

pub returns-in_err-operation_in : goal.returns-in_err-operation_in
returns-in_err-operation_in c =
    let none = c.in_default.ensures in
    rw c.from_residual.ensures (no_one (view c.args.only.now) (λ n h. absurd (cc)) c.in_err-operation_in.ensures)
