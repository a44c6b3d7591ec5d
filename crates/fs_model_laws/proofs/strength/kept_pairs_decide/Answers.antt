use Rattle.fs_model_laws.proofs.Weakening.{allows-the-same}
use Rattle.fs_model_laws.proofs.strength.kept_pairs_decide.Goals as goal

pub returns : goal.returns
returns c = allows-the-same
