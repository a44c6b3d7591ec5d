use Rattle.std.proofs.Common.{◌≡◌, Some, sym, ◌∙◌, ap, subst}
use Rattle.std.specs.Prelude.{slice_get}
use Rattle.fs_board.specs.Growth.{Tree, marked}
use Rattle.fs_board.specs.View.{status_of}
use Rattle.fs_board.proofs.tree.Tree.cover.Goals as goal

pub returns-clause-ok : goal.returns-clause-ok
returns-clause-ok c n i =
    let at : slice_get c.add_witnesses.new.self.nodes c.args.node ≡ Some n = subst (λ (t : Tree). slice_get t.nodes c.args.node ≡ Some n) (sym c.in_ok-add_witnesses.ensures.ok) i in
    c.mark.ensures n at ∙ ap (λ (t : Tree). marked (status_of c.args.status) c.args.node n.part t) c.in_ok-add_witnesses.ensures.ok
