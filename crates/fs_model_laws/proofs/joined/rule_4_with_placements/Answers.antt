use Rattle.fs_model_laws.proofs.NoPlacement.{joined}
use Rattle.fs_model_laws.proofs.joined.rule_4_with_placements.Goals as goal

pub returns : goal.returns
returns c = joined
