use Rattle.fs_model_laws.proofs.FencedSame.{shows_same}
use Rattle.fs_model_laws.proofs.fenced.same_tests_show_alike.Goals as goal

pub returns : goal.returns
returns c = shows_same
