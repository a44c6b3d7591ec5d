use Rattle.fs_app_guarantees.proofs.Agrees.{agrees}
use Rattle.fs_app_guarantees.proofs.agreement.order_agrees.Goals as goal

pub returns : goal.returns
returns c = agrees
