use Rattle.fs_model_axioms.proofs.Axioms.{passing_obeys, obeying_passes}
use Rattle.fs_model_axioms.proofs.laws.tests_decide.Goals as goal

pub returns-clause-passing : goal.returns-clause-passing
returns-clause-passing c = passing_obeys

pub returns-clause-obeying : goal.returns-clause-obeying
returns-clause-obeying c = obeying_passes
