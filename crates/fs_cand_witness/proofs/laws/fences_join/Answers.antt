use Rattle.fs_cand_witness.proofs.Joined.{joined}
use Rattle.fs_cand_witness.proofs.laws.fences_join.Goals as goal

pub returns : goal.returns
returns c = joined
