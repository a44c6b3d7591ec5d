use Rattle.fs_cand_witness.specs.Edges.{has_edge}
use Rattle.fs_cand_witness.proofs.Numbered.{no_cycle}
use Rattle.fs_cand_witness.proofs.order.order_of.Goals as goal

pub unreachable-requires : goal.unreachable-requires
unreachable-requires c =
    let order = c.requires.order in
    no_cycle (has_edge c.args.rows.now) c.args.n order.0 order.1 _ c.in-Cycle.ensures.1
