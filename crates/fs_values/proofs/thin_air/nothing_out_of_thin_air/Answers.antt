use Rattle.fs_values.proofs.Faults.{never_astray}
use Rattle.fs_values.proofs.Grounded.{always_grounded}
use Rattle.fs_values.proofs.thin_air.nothing_out_of_thin_air.Goals as goal

pub returns-clause-grounded : goal.returns-clause-grounded
returns-clause-grounded c = always_grounded

pub returns-clause-listed : goal.returns-clause-listed
returns-clause-listed c t bounded words no_fault = always_grounded t bounded words (never_astray t no_fault)

pub returns-clause-runs : goal.returns-clause-runs
returns-clause-runs c t bounded words no_fault p e is_execution = record {
  harts = is_execution.harts;
  runs = is_execution.runs;
  values = always_grounded t bounded words (never_astray t no_fault) p e is_execution;
}
