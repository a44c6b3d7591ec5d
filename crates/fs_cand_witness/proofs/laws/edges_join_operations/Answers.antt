use Rattle.fs_cand_witness.proofs.Joined.{among}
use Rattle.fs_cand_witness.proofs.laws.edges_join_operations.Goals as goal

pub returns : goal.returns
returns c = among
