use Rattle.std.proofs.Common.{ℕ, arith, subst, take}
use Rattle.std.proofs.lemmas.Result.{IfOk-weaker}
use Rattle.fs_cand_witness.specs.Edges.{has_edge}
use Rattle.fs_cand_witness.specs.Orders.{IsOrderBelow}
use Rattle.fs_cand_witness.proofs.Numbered.{order_below}
use Rattle.fs_cand_witness.proofs.Witnessed.{witnessed}
use Rattle.fs_cand_witness.proofs.widest.widest_witness.Goals as goal

pub read_off-requires-clause-numbers : goal.read_off-requires-clause-numbers
read_off-requires-clause-numbers c = λ a there.
    let low = order_below (has_edge c.widened-wider.result) c.len-n.result _ c.order_of-order.ensures a there in
    omega (arith, low, c.len-n.ensures, c.requires.operations)

pub returns-clause-ok : goal.returns-clause-ok
returns-clause-ok c =
    let test = c.args.test.now in
    let candidate = c.args.candidate.now in
    let numbers = take c.len-n.result c.order_of-order.result in
    let wider = c.widened-wider.result in
    let ordered = subst (λ (n : ℕ). IsOrderBelow (has_edge wider) n numbers) c.len-n.ensures c.order_of-order.ensures in
    IfOk-weaker c.read_off.result _ _ (λ w read.
    witnessed test c.args.placement.now candidate c.args.rows.now wider numbers w c.requires.test c.requires.made c.requires.operations
    c.requires.showing c.requires.rows c.widened-wider.ensures.wider.kept ordered read) c.read_off.ensures.ok
