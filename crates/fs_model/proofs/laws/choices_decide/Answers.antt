use Rattle.fs_model.proofs.Runs.{run_once}
use Rattle.fs_model.proofs.Stops.{whole_never_stops}
use Rattle.fs_model.proofs.OneStop.{stops_once}
use Rattle.fs_model.proofs.laws.choices_decide.Goals as goal

pub returns-clause-whole : goal.returns-clause-whole
returns-clause-whole c = run_once

pub returns-clause-stopped : goal.returns-clause-stopped
returns-clause-stopped c = stops_once

pub returns-clause-apart : goal.returns-clause-apart
returns-clause-apart c = whole_never_stops
