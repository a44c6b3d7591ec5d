use Rattle.fs_app_guarantees.proofs.KeptReasons.{yes_same, reason_same}
use Rattle.fs_app_guarantees.proofs.alike.same_tests_are_judged_alike.Goals as goal

pub returns-clause-agreed : goal.returns-clause-agreed
returns-clause-agreed c = yes_same

pub returns-clause-refused : goal.returns-clause-refused
returns-clause-refused c = reason_same
