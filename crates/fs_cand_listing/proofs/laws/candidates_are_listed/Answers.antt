use Rattle.fs_cand_listing.proofs.Listing.{listing}
use Rattle.fs_cand_listing.proofs.laws.candidates_are_listed.Goals as goal

pub returns : goal.returns
returns c = listing
