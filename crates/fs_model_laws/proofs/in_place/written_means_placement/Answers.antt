use Rattle.fs_model_laws.proofs.EmptiedExecutions.{same_allowed_in_place}
use Rattle.fs_model_laws.proofs.in_place.written_means_placement.Goals as goal

pub returns : goal.returns
returns c = same_allowed_in_place
