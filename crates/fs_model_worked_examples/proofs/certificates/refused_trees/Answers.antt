use Rattle.fs_model_worked_examples.proofs.CoherentCertificates.{fewer, more, no_slot, two_trees, no_tree, no_witness}
use Rattle.fs_model_worked_examples.proofs.certificates.refused_trees.Goals as goal

pub returns-clause-fewer : goal.returns-clause-fewer
returns-clause-fewer c = fewer

pub returns-clause-more : goal.returns-clause-more
returns-clause-more c = more

pub returns-clause-no_slot : goal.returns-clause-no_slot
returns-clause-no_slot c = no_slot

pub returns-clause-two_trees : goal.returns-clause-two_trees
returns-clause-two_trees c = two_trees

pub returns-clause-no_tree : goal.returns-clause-no_tree
returns-clause-no_tree c = no_tree

pub returns-clause-no_witness : goal.returns-clause-no_witness
returns-clause-no_witness c = no_witness
