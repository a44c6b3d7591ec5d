use Rattle.serde_json.specs.View.{view}
use Rattle.fs_cert_json.proofs.Inferences.{kept_in_range}
use Rattle.fs_cert_json.proofs.operands.operation_in.Goals as goal

pub returns-in_err-name_in : goal.returns-in_err-name_in
returns-in_err-name_in c = rw c.from_residual.ensures (λ name h. c.in_err-name_in.ensures name h.0)

pub returns : goal.returns
returns c = kept_in_range (view c.args.value.now) c.in_ok-name_in.field-0 c.in_ok-name_in.ensures
