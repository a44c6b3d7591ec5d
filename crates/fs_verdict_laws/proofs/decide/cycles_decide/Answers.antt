use Rattle.fs_verdict_laws.proofs.Sorting.{ordered_or_round}
use Rattle.fs_verdict_laws.proofs.Deciding.{acyclic_ordered, acyclic_executed, by_cycles}
use Rattle.fs_verdict_laws.proofs.decide.cycles_decide.Goals as goal

pub returns-clause-either : goal.returns-clause-either
returns-clause-either c = ordered_or_round

pub returns-clause-acyclic : goal.returns-clause-acyclic
returns-clause-acyclic c = acyclic_ordered

pub returns-clause-executed : goal.returns-clause-executed
returns-clause-executed c = acyclic_executed

pub returns-clause-decides : goal.returns-clause-decides
returns-clause-decides c = by_cycles
