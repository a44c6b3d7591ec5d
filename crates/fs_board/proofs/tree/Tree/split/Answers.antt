use Rattle.std.proofs.Common.{◌≡◌, length, Some, sym, ◌∙◌, ap, subst}
use Rattle.std.specs.Prelude.{slice_get}
use Rattle.fs_board_offers.specs.Board.{Node, Status, Split}
use Rattle.fs_board.specs.Growth.{Tree, marked}
use Rattle.fs_board.proofs.Counts.{get_grown, set_grown}
use Rattle.fs_board.proofs.tree.Tree.split.Goals as goal

pub returns-clause-ok : goal.returns-clause-ok
returns-clause-ok c n i =
    let s : Tree = c.args.self.now in
    let kids = c.args.children.items in
    let z : Status = Split c.args.slot (length s.nodes) in
    let m : Node = record { part = n.part; status = z } in
    let first : c.len-first.result ≡ length s.nodes = c.len-first.ensures ∙ (c.self.inside.nodes.ok.0 ∙ ap (λ (b : Tree). length b.nodes) c.self.view_is) in
    let at : slice_get c.grow.new.self.nodes c.args.node ≡ Some n = subst (λ (t : Tree). slice_get t.nodes c.args.node ≡ Some n) (sym (c.in_ok-grow.ensures.ok)) (get_grown s.nodes kids c.args.node n i) in
    c.mark.ensures n at ∙ (ap (λ k. marked (Split c.args.slot k) c.args.node n.part c.grow.new.self) first
    ∙ (ap (λ (t : Tree). marked z c.args.node n.part t) c.in_ok-grow.ensures.ok
    ∙ ap (λ ns. let t : Tree = record s { nodes = ns } in t) (set_grown s.nodes kids c.args.node n m i)))
