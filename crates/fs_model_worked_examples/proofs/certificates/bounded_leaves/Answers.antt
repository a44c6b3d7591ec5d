use Rattle.fs_model_worked_examples.proofs.Bounded.{missing, before_node, cheap}
use Rattle.fs_model_worked_examples.proofs.certificates.bounded_leaves.Goals as goal

pub returns-clause-missing : goal.returns-clause-missing
returns-clause-missing c = missing

pub returns-clause-before_node : goal.returns-clause-before_node
returns-clause-before_node c = before_node

pub returns-clause-cheap : goal.returns-clause-cheap
returns-clause-cheap c = cheap
