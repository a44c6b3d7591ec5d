use Rattle.std.proofs.Common.{◌||◌, ◌&&◌, ◌∙◌, sym, ap, arith}
use Rattle.fs_cand_witness.specs.Edges.{has_bit, has_edge}
use Rattle.fs_cand_witness.proofs.Widening.{made_by, there_already, no_room}
use Rattle.fs_cand_witness.proofs.widen.with_edges.Goals as goal

pub returns-then-are_ordered-clause-tried : goal.returns-then-are_ordered-clause-tried
returns-then-are_ordered-clause-tried c =
    there_already c.args.n c.args.rows c.args.from c.args.to (omega arith) (omega arith) (sym c.are_ordered.ensures ∙ c.if-are_ordered.true)

pub returns-else-has_order-clause-tried : goal.returns-else-has_order-clause-tried
returns-else-has_order-clause-tried c =
    let found = c.has_order.ensures.cyclic c.if-has_order.false in
    no_room c.args.n c.args.rows c.add_to_each.new.self found.0 c.args.from c.args.to
    (λ a b. c.add_to_each.ensures a b ∙ ap (λ u. u || (has_bit c.args.from a && has_bit c.args.to b))
    (c.union.ensures a b ∙ ap (λ u. u || has_edge c.args.rows a b) (c.new-wider.ensures a b)))
    found.1

pub returns-then-has_order-clause-made : goal.returns-then-has_order-clause-made
returns-then-has_order-clause-made c =
    made_by c.args.rows c.add_to_each.new.self c.args.from c.args.to
    (λ a b. c.add_to_each.ensures a b ∙ ap (λ u. u || (has_bit c.args.from a && has_bit c.args.to b))
    (c.union.ensures a b ∙ ap (λ u. u || has_edge c.args.rows a b) (c.new-wider.ensures a b)))
