use Rattle.fs_app_guarantees.proofs.Yeses.{true_yes}
use Rattle.fs_app_guarantees.proofs.checked.yes_is_true.Goals as goal

pub returns : goal.returns
returns c = true_yes
