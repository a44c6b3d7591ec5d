use Rattle.fs_model_worked_examples.proofs.CoherentCertificates.{dear, none, rule, edge, name}
use Rattle.fs_model_worked_examples.proofs.certificates.refused_cycles.Goals as goal

pub returns-clause-cost : goal.returns-clause-cost
returns-clause-cost c = dear

pub returns-clause-none : goal.returns-clause-none
returns-clause-none c = none

pub returns-clause-rule : goal.returns-clause-rule
returns-clause-rule c = rule

pub returns-clause-edge : goal.returns-clause-edge
returns-clause-edge c = edge

pub returns-clause-name : goal.returns-clause-name
returns-clause-name c = name
