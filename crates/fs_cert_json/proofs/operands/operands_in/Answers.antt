use Rattle.std.proofs.Common.{arith}
use Rattle.fs_cert_json.proofs.Inferences.{no_operands}
use Rattle.fs_cert_json.proofs.operands.operands_in.Goals as goal

pub returns-in_default : goal.returns-in_default
returns-in_default c = no_operands c.args.others.now (λ one. omega arith) (λ two. omega arith) (λ three. omega arith)
