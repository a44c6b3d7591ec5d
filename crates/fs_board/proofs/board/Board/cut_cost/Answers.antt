use Rattle.std.proofs.Common.{◌≡◌, true, not, Some, [], sym, ◌∙◌, ap, subst, refl}
use Rattle.std.specs.Prelude.{slice_get}
use Rattle.fs_board_offers.specs.Parts.{Part, floor}
use Rattle.fs_board_offers.specs.Pruning.{is_pruned}
use Rattle.fs_board_offers.specs.Bests.{is_best}
use Rattle.fs_board_offers.specs.Board.{Node, Costly, CutCost, Closed, is_held_by, part_at, with_status}
use Rattle.fs_board.specs.Growth.{board_of}
use Rattle.fs_board.specs.View.{Search}
use Rattle.fs_board.proofs.Bests.{pruned_by_cost}
use Rattle.fs_board.proofs.Children.{node_with}
use Rattle.fs_board.proofs.Replays.{StepsFrom}
use Rattle.fs_board.proofs.board.Board.cut_cost.Goals as goal

pub close-requires-clause-may : goal.close-requires-clause-may
close-requires-clause-may c =
    let s : Search = record { question = c.self.inside.question.value; board = board_of c.self.inside.tree; log = c.self.inside.log.items } in
    let part : Part = c.in-Some.part.now.value in
    let held : part_at (is_held_by c.args.worker) s.board c.args.node ≡ Some part = sym c.in-Some.ensures in
    let n = node_with (is_held_by c.args.worker) s.board c.args.node part held in
    let least : c.deref-2.result.now ≡ floor part = c.deref-2.ensures.value ∙ (c.in_ok-floor.ensures ∙ ap floor c.deref.ensures) in
    let best = ap (λ (x : Search). is_best x.question.offers x.board.bound (floor part)) c.self.view_is
    ∙ (ap (is_best c.args.self.now.question.offers c.args.self.now.board.bound) (sym least) ∙ (sym c.is_best.ensures ∙ c.if-is_best.false)) in
    let pruned : is_pruned s.question.offers s.board.bound part [] ≡ true = pruned_by_cost s.question.offers s.board.bound part ∙ ap not best in
    let step : StepsFrom s c.args.worker (CutCost c.args.node) Closed (with_status Costly c.args.node n.0.part s.board) =
    subst (λ (p : Part). StepsFrom s c.args.worker (CutCost c.args.node) Closed (with_status Costly c.args.node p s.board)) (sym n.2)
    (part, held, pruned, refl) in
    subst (λ (y : Search). (m : Node) × (slice_get y.board.nodes c.args.node ≡ Some m)
    × StepsFrom y c.args.worker (CutCost c.args.node) Closed (with_status Costly c.args.node m.part y.board)) c.self.view_is
    (n.0, n.1, step)
