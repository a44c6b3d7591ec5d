use Rattle.fs_values.proofs.Sets.{ended, ended_faults}
use Rattle.fs_values.proofs.laws.rounds_come_to_an_end.Goals as goal

pub returns-clause-values : goal.returns-clause-values
returns-clause-values c = ended

pub returns-clause-faults : goal.returns-clause-faults
returns-clause-faults c = ended_faults
