use Rattle.fs_cand_witness.proofs.Bits.{has_edge-none}
use Rattle.fs_cand_witness.proofs.rows.Rows.new.Goals as goal

pub returns : goal.returns
returns c = λ x y. has_edge-none 64 x y
