use Rattle.std.proofs.Common.{arith}
use Rattle.fs_cand_witness.proofs.Each.{row_added}
use Rattle.fs_cand_witness.proofs.rows.Rows.add_row.Goals as goal

pub returns : goal.returns
returns c = λ x y. rw (← c.self.view_is) (row_added c.self.inside.rows c.args.a c.args.to x y (omega arith))
