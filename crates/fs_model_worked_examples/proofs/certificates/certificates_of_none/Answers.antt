use Rattle.fs_model_worked_examples.proofs.PassingCertificates.{valid, no_witnesses, with_tree, other_test, inferred, one_inference}
use Rattle.fs_model_worked_examples.proofs.certificates.certificates_of_none.Goals as goal

pub returns-clause-valid : goal.returns-clause-valid
returns-clause-valid c = valid

pub returns-clause-no_witness : goal.returns-clause-no_witness
returns-clause-no_witness c = no_witnesses

pub returns-clause-tree : goal.returns-clause-tree
returns-clause-tree c = with_tree

pub returns-clause-other_test : goal.returns-clause-other_test
returns-clause-other_test c = other_test

pub returns-clause-fourth : goal.returns-clause-fourth
returns-clause-fourth c = inferred

pub returns-clause-inference : goal.returns-clause-inference
returns-clause-inference c = one_inference
