use Rattle.std.proofs.Common.{arith, get_or, ◌<◌}
use Rattle.fs_cand_witness.proofs.Bits.{bit_or_test}
use Rattle.fs_cand_witness.proofs.rows.Rows.join.Goals as goal

pub returns-clause-below : goal.returns-clause-below
returns-clause-below c = λ x y h.
    let low : x < c.loop-a.a = omega arith in
    rw (← c.first.view_is, ← c.second.view_is) (rw (c.loop-a.invariant.1.0 x low) (bit_or_test (get_or c.first.inside.rows x 0) (get_or c.second.inside.rows x 0) y))
