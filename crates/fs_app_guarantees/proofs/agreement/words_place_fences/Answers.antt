use Rattle.fs_app_guarantees.proofs.Agrees.{places}
use Rattle.fs_app_guarantees.proofs.agreement.words_place_fences.Goals as goal

pub returns : goal.returns
returns c = places
