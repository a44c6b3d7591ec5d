use Rattle.fs_app_guarantees.proofs.KeptCertificates.{valid_same, refusal_same}
use Rattle.fs_app_guarantees.proofs.alike.same_tests_certify_alike.Goals as goal

pub returns-clause-valid : goal.returns-clause-valid
returns-clause-valid c = valid_same

pub returns-clause-refused : goal.returns-clause-refused
returns-clause-refused c = refusal_same
