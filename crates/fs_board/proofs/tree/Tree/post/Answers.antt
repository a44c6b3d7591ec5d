use Rattle.std.proofs.Common.{◌≡◌, Some, sym, ◌∙◌, ap, subst}
use Rattle.std.specs.Prelude.{slice_get}
use Rattle.fs_board_offers.specs.Board.{Posted}
use Rattle.fs_board.specs.Growth.{Tree, marked}
use Rattle.fs_board.proofs.tree.Tree.post.Goals as goal

pub returns : goal.returns
returns c n i =
    let f = c.if-not-better.false in
    let at : slice_get c.set_bound.new.self.nodes c.args.node ≡ Some n = subst (λ (t : Tree). slice_get t.nodes c.args.node ≡ Some n) (sym c.set_bound.ensures) i in
    rw f (c.mark-2.ensures n at ∙ ap (λ (t : Tree). marked Posted c.args.node n.part t) c.set_bound.ensures)
