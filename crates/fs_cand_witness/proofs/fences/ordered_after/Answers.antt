use Rattle.std.proofs.Common.{sym, ◌∙◌}
use Rattle.fs_cand_witness.specs.Edges.{has_bit}
use Rattle.fs_cand_witness.proofs.Bits.{bit_or_test}
use Rattle.fs_cand_witness.proofs.Orders.{by_second}
use Rattle.fs_cand_witness.proofs.fences.ordered_after.Goals as goal

pub returns : goal.returns
returns c = λ b.
    bit_or_test c.where_asked.result c.where_asked-2.result b
    ∙ rw (c.where_asked.ensures b, c.where_asked-2.ensures b, c.orders.ensures, c.orders-2.ensures)
    (sym (by_second c.args.kind c.args.first.reads c.args.first.writes (has_bit c.args.sides.now.reads_after b) (has_bit c.args.sides.now.writes_after b)))
