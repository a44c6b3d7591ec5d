use Rattle.fs_model_worked_examples.proofs.CoherentListing.{listing}
use Rattle.fs_model_worked_examples.proofs.PassingListing.{listing as passing_listing}
use Rattle.fs_model_worked_examples.proofs.certificates.one_candidate.Goals as goal

pub returns-clause-listing : goal.returns-clause-listing
returns-clause-listing c = listing

pub returns-clause-passing : goal.returns-clause-passing
returns-clause-passing c = passing_listing
