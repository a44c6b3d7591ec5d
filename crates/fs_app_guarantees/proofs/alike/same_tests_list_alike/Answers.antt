use Rattle.fs_app_guarantees.proofs.KeptCandidates.{showing_same, listing_same}
use Rattle.fs_app_guarantees.proofs.alike.same_tests_list_alike.Goals as goal

pub returns-clause-showing : goal.returns-clause-showing
returns-clause-showing c = showing_same

pub returns-clause-listing : goal.returns-clause-listing
returns-clause-listing c = listing_same
