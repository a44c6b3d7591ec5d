use Rattle.fs_cand_listing.proofs.Listing.{over, not_over}
use Rattle.fs_cand_listing.proofs.laws.lengths_decide.Goals as goal

pub returns-clause-many : goal.returns-clause-many
returns-clause-many c = over

pub returns-clause-few : goal.returns-clause-few
returns-clause-few c = not_over
