use Rattle.fs_app_guarantees.proofs.OneAnswer.{one_answer}
use Rattle.fs_app_guarantees.proofs.agreement.order_answers_once.Goals as goal

pub returns : goal.returns
returns c = one_answer
