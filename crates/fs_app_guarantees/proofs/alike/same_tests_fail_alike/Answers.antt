use Rattle.fs_app_guarantees.proofs.KeptRuns.{run_fault_same}
use Rattle.fs_app_guarantees.proofs.KeptCandidates.{slots_same, candidate_fault_same, too_many_same}
use Rattle.fs_app_guarantees.proofs.alike.same_tests_fail_alike.Goals as goal

pub returns-clause-places : goal.returns-clause-places
returns-clause-places c = slots_same

pub returns-clause-runs : goal.returns-clause-runs
returns-clause-runs c = run_fault_same

pub returns-clause-candidates : goal.returns-clause-candidates
returns-clause-candidates c = candidate_fault_same

pub returns-clause-many : goal.returns-clause-many
returns-clause-many c = too_many_same
