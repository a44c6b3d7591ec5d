use Rattle.fs_app_guarantees.proofs.Meaning.{holds}
use Rattle.fs_app_guarantees.proofs.promise.headline.Goals as goal

pub returns : goal.returns
returns c = holds
