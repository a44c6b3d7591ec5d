use Rattle.fs_model_worked_examples.proofs.PassingCertificates.{root_leaf, first_leaf, dear}
use Rattle.fs_model_worked_examples.proofs.certificates.cheap_leaves.Goals as goal

pub returns-clause-root : goal.returns-clause-root
returns-clause-root c = root_leaf

pub returns-clause-first_leaf : goal.returns-clause-first_leaf
returns-clause-first_leaf c = first_leaf

pub returns-clause-cost : goal.returns-clause-cost
returns-clause-cost c = dear
