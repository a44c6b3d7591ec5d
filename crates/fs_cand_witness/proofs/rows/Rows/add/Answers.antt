use Rattle.std.proofs.Common.{arith}
use Rattle.fs_cand_witness.proofs.Bits.{has_edge-add}
use Rattle.fs_cand_witness.proofs.rows.Rows.add.Goals as goal

pub returns : goal.returns
returns c = λ x y. rw (← c.self.view_is) (has_edge-add c.self.inside.rows c.args.a c.args.b x y (omega arith) c.requires.second)
