use Rattle.fs_region_refutation.proofs.Walked.{none_to, none_from}
use Rattle.fs_region_refutation.proofs.laws.refutations_are_right.Goals as goal

pub returns : goal.returns
returns c = λ t p regions inferences k. (none_to t p regions inferences k, none_from t p regions inferences k)
