use Rattle.fs_cand_listing.proofs.Listing.{length-candidates}
use Rattle.fs_cand_listing.proofs.laws.raw_candidates_are_counted.Goals as goal

pub returns : goal.returns
returns c = length-candidates
