use Rattle.fs_app_guarantees.proofs.Accepted.{accepted}
use Rattle.fs_app_guarantees.proofs.checked.certified_is_accepted.Goals as goal

pub returns : goal.returns
returns c = accepted
