use Rattle.std.proofs.Common.{◌≡◌, ℕ, List, length, sym, ◌∙◌, ap, subst}
use Rattle.fs_cand.specs.Candidates.{candidate_of}
use Rattle.fs_cand_witness.specs.Edges.{has_edge}
use Rattle.fs_cand_witness.specs.Orders.{IsOrderBelow}
use Rattle.fs_judge.proofs.known.Known.witness.Goals as goal

pub has_order-requires : goal.has_order-requires
has_order-requires c = c.requires.known.base.few

pub widest_witness-requires-clause-rows : goal.widest_witness-requires-clause-rows
widest_witness-requires-clause-rows c =
    c.under-rows.ensures c.args.test.now (candidate_of c.args.self.now.candidate) c.requires.known.base

pub widest_witness-requires-clause-order : goal.widest_witness-requires-clause-order
widest_witness-requires-clause-order c =
    let known = c.requires.known in
    let long : c.args.self.now.base.len ≡ length c.args.self.now.candidate.operations =
    known.base.long ∙ sym (ap length known.made.operations) in
    subst (λ (n : ℕ). (numbers : List ℕ) × IsOrderBelow (has_edge c.under-rows.result) n numbers) long
    (c.has_order.ensures.ordered c.if-not-has_order.false)
